pub mod PieceLaws
pub mod MarkLaws
pub mod WithheldListLaws
