use Rattle.patterns.proofs.PatternLaws.{yes_matches, others_fail}
use Rattle.patterns.proofs.pattern.name_matches.Goals as goal

pub returns-in-Yes : goal.returns-in-Yes
returns-in-Yes c = search yes_matches

pub returns-in_default : goal.returns-in_default
returns-in_default c = search (others_fail, c.in_default.not-Yes)
