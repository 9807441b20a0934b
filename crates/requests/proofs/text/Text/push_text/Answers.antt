use Rattle.std.proofs.Common.{rules, arith}
use Rattle.std.proofs.lemmas.Slice.{overwrites}
use Rattle.std.proofs.lemmas.List.{drop-drop, drop-replicate}
use Rattle.requests.proofs.text.Text.push_text.Goals as goal

pub invariant_of-self : goal.invariant_of-self
invariant_of-self c = search (rules, overwrites, drop-drop, drop-replicate, arith)

pub returns : goal.returns
returns c = search (rules, overwrites)
