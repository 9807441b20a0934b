use borrow.Author.Rules.{rules}
use Rattle.examination.proofs.RulingLaws.{named_here, named_next, none_named, whole_fails, whole_holds}
use Rattle.examination.proofs.broken.file_fault.Goals as goal

pub returns-in-Some : goal.returns-in-Some
returns-in-Some c = search (named_here, rules)

pub returns-in-Some-rule8 : goal.returns-in-Some-rule8
returns-in-Some-rule8 c = search (named_next, named_here, rules)

pub returns-then-not-rule9 : goal.returns-then-not-rule9
returns-then-not-rule9 c = search (named_next, named_here, whole_fails, rules)

pub returns : goal.returns
returns c = search (named_next, none_named, whole_holds, rules)
