use Rattle.requests.proofs.PlaceHeaderLaws.{placing_books}
use Rattle.requests.proofs.place_header.put_headed.Goals as goal

pub returns : goal.returns
returns c = search placing_books
