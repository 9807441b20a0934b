use Rattle.std.proofs.Common.{rules, ◌≡◌, ◌≢◌}
use borrow.Author.Tests.{tests}
use Rattle.allocation.proofs.LastLaws.{onward_none, onward_more, onward_last, onward_end}
use Rattle.allocation.proofs.last.last_table.Goals as goal

pub loop-init : goal.loop-init
loop-init c = search onward_none

pub returns-then-eq : goal.returns-then-eq
returns-then-eq c = let e : c.link-next.result.0 ≡ 0 = search (rules, tests) in (search onward_last, search rules, search rules)

pub loop-preserved : goal.loop-preserved
loop-preserved c = let ne : c.link-next.result.0 ≢ 0 = search (rules, tests) in search onward_more

pub returns : goal.returns
returns c = (search onward_end, search rules, search rules)
