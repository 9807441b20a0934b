use borrow.Author.Rules.{rules}
use Rattle.examination.proofs.RulingLaws.{named_here, named_next, none_named, whole_fails, whole_holds}
use Rattle.examination.proofs.broken.index_fault.Goals as goal

pub returns-in-Some : goal.returns-in-Some
returns-in-Some c = search (named_here, rules)

pub returns-then-not-free_chain : goal.returns-then-not-free_chain
returns-then-not-free_chain c = search (named_next, named_here, whole_fails, rules)

pub returns-in-Some-rule5_place : goal.returns-in-Some-rule5_place
returns-in-Some-rule5_place c = search (named_next, named_here, whole_holds, rules)

pub returns-in_err-i : goal.returns-in_err-i
returns-in_err-i c = search (named_next, none_named, whole_holds, rules)

pub returns : goal.returns
returns c = search (named_next, named_here, whole_holds, rules)
