use Rattle.watch.proofs.LeftAfter.{room_after_one}
use Rattle.file_tests.proofs.of_watch.told_in_order_and_once.Goals as goal

pub tell-requires-2 : goal.tell-requires-2
tell-requires-2 g c = record { room = room_after_one c.note.result _ _ c.in_ok-watchers.ensures c.tell.ensures.left }
