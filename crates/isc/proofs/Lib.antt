pub mod BorderLaws
