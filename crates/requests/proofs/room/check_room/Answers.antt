use Rattle.requests.proofs.RoomNumberLaws.{room_fails, room_plan, tables_fail, tables_fit}
use Rattle.requests.proofs.room.check_room.Goals as goal

pub returns-then-not-room : goal.returns-then-not-room
returns-then-not-room c = search room_fails

pub tables_for-requires : goal.tables_for-requires
tables_for-requires c = search room_plan

pub returns-then-tables_for-free_indexes : goal.returns-then-tables_for-free_indexes
returns-then-tables_for-free_indexes c = search tables_fail

pub returns : goal.returns
returns c = search tables_fit
