use Rattle.files.proofs.ReleaseLaws.{header_within, table_freed}
use borrow.Author.Rules.{rules}
use Rattle.files.proofs.release.free_table.Goals as goal

pub clear_header-requires : goal.clear_header-requires
clear_header-requires c = record { layout = search rules; le_i = search rules; runs_within = search header_within }

pub returns : goal.returns
returns c = search table_freed
