use Rattle.patterns.proofs.PatternLaws.{first_tells}
use Rattle.patterns.proofs.pattern.differs.Goals as goal

pub returns-in-len1-up-name : goal.returns-in-len1-up-name
returns-in-len1-up-name c = λ t. search first_tells
