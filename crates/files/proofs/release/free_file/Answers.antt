use Rattle.files.proofs.ReleaseLaws.{file_counts, file_freed}
use borrow.Author.Rules.{rules}
use Rattle.files.proofs.release.free_file.Goals as goal

pub put_freed-requires : goal.put_freed-requires
put_freed-requires c =
    let n = c.free_tables-n.ensures in
    let counts =
    file_counts c.args.p c.args.b.now c.requires.layout c.requires.lawful_some.1 c.args.f.0 c.requires.parent _ _ _ _ _ c.first_free-first.ensures
    c.last_table-last.ensures.0 n.0 n.1 n.2 c.put_link.ensures c.requires.f_value in record { in_bounds = search rules; bound = counts; date_len = search rules }

pub returns : goal.returns
returns c = search file_freed
