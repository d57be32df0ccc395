use Rattle.delete_buffer.proofs.Order.{at_found, IsFirstPast-place}
use Rattle.delete_buffer.proofs.ends.past.Goals as goal

pub returns-in-Ok : goal.returns-in-Ok
returns-in-Ok c = let b = c.in-Ok.ensures.bound in let p = c.in-Ok.ensures.position in at_found _ _ _ c.requires b p

pub returns-in-Err : goal.returns-in-Err
returns-in-Err c = let b = c.in-Err.ensures.bound in let p = c.in-Err.ensures.position in IsFirstPast-place _ _ _ c.requires b p
