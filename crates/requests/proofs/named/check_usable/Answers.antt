use mathlib.Core.Path.{refl}
use borrow.Author.Rules.{rules}
use Rattle.tables.proofs.RefusalLaws.{refused}
use Rattle.requests.proofs.NamedLaws.{usable_unnamed, usable_file, usable_protected, usable_free}
use Rattle.requests.proofs.named.check_usable.Goals as goal

pub returns-in_err-check_state : goal.returns-in_err-check_state
returns-in_err-check_state c = search (usable_unnamed, refused, rules)

pub unprotected-requires : goal.unprotected-requires
unprotected-requires c = record { good_some = search rules; parent = usable_file c.args.w _ _ _ c.in_ok-check_state.ensures refl _ c.requires.good_some.1; w_nonzero = search rules }

pub returns-then-not-unprotected : goal.returns-then-not-unprotected
returns-then-not-unprotected c = search (usable_protected, rules)

pub returns : goal.returns
returns c = search (usable_free, rules)
