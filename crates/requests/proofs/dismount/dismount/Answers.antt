use Rattle.requests.proofs.JudgedLaws.{use_room}
use mathlib.Core.Path.{refl}
use borrow.Author.Rules.{rules}
use Rattle.requests.proofs.dismount.dismount.Goals as goal

pub put_flag-requires : goal.put_flag-requires
put_flag-requires c = (use_room c.args.b.now c.args.withheld.now 0 c.in_ok-check_use.ensures refl, search rules)
