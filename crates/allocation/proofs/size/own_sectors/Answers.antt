use Rattle.std.proofs.Common.{rules, ◌≡◌, ◌≢◌}
use borrow.Author.Tests.{tests}
use Rattle.allocation.proofs.SizeLaws.{own_other, own_file}
use Rattle.allocation.proofs.size.own_sectors.Goals as goal

pub returns-then-ne : goal.returns-then-ne
returns-then-ne c = let ne : c.file.result.0 ≢ c.args.f.0 = search (rules, tests) in (search own_other, search rules)

pub returns : goal.returns
returns c = let e : c.file.result.0 ≡ c.args.f.0 = search (rules, tests) in (search own_file, search rules)
