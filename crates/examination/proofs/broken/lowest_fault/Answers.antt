use borrow.Author.Rules.{rules}
use Rattle.examination.proofs.BrokenLaws.{zones_named, index_r6, indexes_named, files_named}
use Rattle.examination.proofs.broken.lowest_fault.Goals as goal

pub returns-in-Some : goal.returns-in-Some
returns-in-Some c = search (zones_named, rules)

pub returns-in-Some-index_fault : goal.returns-in-Some-index_fault
returns-in-Some-index_fault c = search (indexes_named, rules)

pub file_fault-requires-clause-r6 : goal.file_fault-requires-clause-r6
file_fault-requires-clause-r6 c = search (index_r6, rules)

pub returns : goal.returns
returns c = search (files_named, rules)
