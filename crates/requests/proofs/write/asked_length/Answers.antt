use Rattle.requests.proofs.WriteLaws.{asked_none, asked_fixed, asked_more}
use Rattle.requests.proofs.write.asked_length.Goals as goal

pub returns-then-n-eq0 : goal.returns-then-n-eq0
returns-then-n-eq0 c = search asked_none

pub returns-then-not-variable_size : goal.returns-then-not-variable_size
returns-then-not-variable_size c = search asked_fixed

pub returns : goal.returns
returns c = search asked_more
