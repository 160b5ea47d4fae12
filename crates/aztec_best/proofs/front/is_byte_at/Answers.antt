use Rattle.aztec_best.proofs.Fronts.{bytes_ahead-byte, bytes_ahead-eci, bytes_ahead-fnc1, bytes_ahead-past}
use Rattle.aztec_best.proofs.front.is_byte_at.Goals as goal

pub returns-in-Some-Byte-clause-yes : goal.returns-in-Some-Byte-clause-yes
returns-in-Some-Byte-clause-yes c = bytes_ahead-byte c.args.elements.now c.args.place c.in-Some-Byte.field-0-0 (cc)

pub returns-in-Some-Eci-clause-no : goal.returns-in-Some-Eci-clause-no
returns-in-Some-Eci-clause-no c = bytes_ahead-eci c.args.elements.now c.args.place c.in-Some-Eci.field-0-0 (cc)

pub returns-in-Some-Fnc1-clause-no : goal.returns-in-Some-Fnc1-clause-no
returns-in-Some-Fnc1-clause-no c = bytes_ahead-fnc1 c.args.elements.now c.args.place (cc)

pub returns-in-None-clause-no : goal.returns-in-None-clause-no
returns-in-None-clause-no c = bytes_ahead-past c.args.elements.now c.args.place (cc)
