use Rattle.files.proofs.HeaderByteLaws.{mark_none, mark_low, mark_fits, mark_some}
use Rattle.files.proofs.header_bytes.mark_header.Goals as goal

pub returns-then-q-eq0 : goal.returns-then-q-eq0
returns-then-q-eq0 c = search mark_none

pub body_place-requires : goal.body_place-requires
body_place-requires c = search mark_low

pub put_u32-requires : goal.put_u32-requires
put_u32-requires c = search mark_fits

pub returns : goal.returns
returns c = search mark_some
