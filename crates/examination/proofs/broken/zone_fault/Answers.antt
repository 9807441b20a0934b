use borrow.Author.Rules.{rules}
use Rattle.examination.proofs.RulingLaws.{named_here, named_next, none_named}
use Rattle.examination.proofs.broken.zone_fault.Goals as goal

pub returns-in-Some : goal.returns-in-Some
returns-in-Some c = search (named_here, rules)

pub returns-in-Some-entry : goal.returns-in-Some-entry
returns-in-Some-entry c = search (named_next, named_here, rules)

pub returns-in_err-z : goal.returns-in_err-z
returns-in_err-z c = search (named_next, none_named, rules)

pub returns : goal.returns
returns c = search (named_next, named_here, rules)
