use Rattle.examination.proofs.CheckLaws.{refused_1, refused_2, refused_3, unplaced_3}
use borrow.Author.Rules.{rules}
use Rattle.examination.proofs.check.find_places.Goals as goal

pub returns-then-not-sized : goal.returns-then-not-sized
returns-then-not-sized c = search (refused_1, rules)

pub returns-then-not-marked : goal.returns-then-not-marked
returns-then-not-marked c = search (refused_2, rules)

pub returns-then-not-limits : goal.returns-then-not-limits
returns-then-not-limits c = search (refused_3, rules)

pub returns-then-not-stands : goal.returns-then-not-stands
returns-then-not-stands c = search (unplaced_3, rules)
