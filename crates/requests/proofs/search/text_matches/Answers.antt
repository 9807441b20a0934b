use Rattle.requests.proofs.SearchRequestLaws.{text_says}
use Rattle.requests.proofs.search.text_matches.Goals as goal

pub returns : goal.returns
returns c = search text_says
