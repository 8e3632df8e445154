-- `walls_c::walls_c_check_packed` meets its contract. Assumes nothing.
use Rattle.walls_c.proofs.Packed.{held, checked}
use Rattle.walls_c.proofs.walls_c_check_packed.Goals as goal

pub check_read-reply-requires : goal.check_read-reply-requires
check_read-reply-requires c = held c.read_packed.ensures c.in-Ok.is

pub returns : goal.returns
returns c = checked c.read_packed.ensures c.put_check-2.ensures c.in-Ok.is c.check_read-reply.ensures
