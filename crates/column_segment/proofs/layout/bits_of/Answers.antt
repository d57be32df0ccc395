use Rattle.column_segment.proofs.Layouts.{bits_room, bits_least}
use Rattle.column_segment.proofs.layout.bits_of.Goals as goal

pub returns-clause-room : goal.returns-clause-room
returns-clause-room c = bits_room c.args.number c.ranges.number.fits

pub returns-clause-least : goal.returns-clause-least
returns-clause-least c = λ other room. bits_least c.args.number other c.ranges.number.fits room
