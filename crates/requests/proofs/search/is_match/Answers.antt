use Rattle.requests.proofs.SearchRequestLaws.{match_not, match_says}
use Rattle.requests.proofs.search.is_match.Goals as goal

pub returns-then-not-is_active : goal.returns-then-not-is_active
returns-then-not-is_active c = search match_not

pub returns : goal.returns
returns c = search match_says
