use Rattle.requests.proofs.FormatRequestLaws.{number_sized, number_fits, number_texts, number_none}
use Rattle.requests.proofs.format.check_format.Goals as goal

pub returns-then-not-sized : goal.returns-then-not-sized
returns-then-not-sized c = search number_sized

pub returns-then-not-fits : goal.returns-then-not-fits
returns-then-not-fits c = search number_fits

pub returns-then-not-writable : goal.returns-then-not-writable
returns-then-not-writable c = search number_texts

pub returns : goal.returns
returns c = search number_none
