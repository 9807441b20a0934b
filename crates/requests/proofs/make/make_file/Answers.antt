use mathlib.Core.Path.{refl}
use Rattle.requests.proofs.CreateLaws.{none_provides, file_fits}
use Rattle.requests.proofs.ArgumentLaws.{good_at}
use borrow.Author.Rules.{rules}
use Rattle.requests.proofs.make.make_file.Goals as goal

pub create_file-requires : goal.create_file-requires
create_file-requires c =
    let g = good_at _ _ c.requires.good_some c.read_places-p.ensures in record { provided_some = (g.0, none_provides _ _ _ c.args.counts 0 g.1 (search rules) c.no_pointer-l.ensures c.in_ok-check_room.ensures refl); name_len_bound = let f = file_fits _ _ _ c.requires.new_file in (f.0, f.1, c.attribute_for.ensures.1) }
