use mathlib.Core.Path.{refl}
use Rattle.tables.proofs.RefusalLaws.{refused}
use Rattle.requests.proofs.MountLaws.{mount_judged, mount_stops, mount_ends}
use borrow.Author.Rules.{rules}
use Rattle.requests.proofs.mount.mount.Goals as goal

pub returns-in_err-judge : goal.returns-in_err-judge
returns-in_err-judge c = search (mount_stops, mount_judged, refused, rules)

pub returns : goal.returns
returns c = mount_ends _ _ 0 _ (mount_judged _ _ _ c.in_ok-judge.ensures.1) refl c.put_flag.ensures
