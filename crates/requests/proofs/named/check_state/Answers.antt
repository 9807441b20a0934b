use Rattle.requests.proofs.NamedLaws.{state_low, state_high, state_other, state_parent}
use Rattle.requests.proofs.named.check_state.Goals as goal

pub returns-then-id-lt1 : goal.returns-then-id-lt1
returns-then-id-lt1 c = search state_low

pub returns-then-id-b : goal.returns-then-id-b
returns-then-id-b c = search state_high

pub returns-then-not-is_parent : goal.returns-then-not-is_parent
returns-then-not-is_parent c = search state_other

pub returns : goal.returns
returns c = search state_parent
