use Rattle.std.specs.Str.{chars}
use Rattle.eci_sets.specs.CharacterSets.{set_numbered}
use Rattle.zint_draw.proofs.Messages.{never_bad_bytes, never_unknown}
use Rattle.zint_draw.proofs.message.encoded_in.Goals as goal

pub unreachable-requires : goal.unreachable-requires
unreachable-requires c =
    never_unknown c.args.eci (chars c.args.text.now) c.in-Err-UnknownEci.field-0 c.requires.known c.in-Err-UnknownEci.field-0-is
    c.in-Err-UnknownEci.ensures.gives

pub unreachable-requires-in-Err-BadBytes : goal.unreachable-requires-in-Err-BadBytes
unreachable-requires-in-Err-BadBytes c =
    never_bad_bytes (set_numbered c.args.eci) (chars c.args.text.now) c.in-Err-BadBytes.field-0 c.in-Err-BadBytes.field-0-0
    c.in-Err-BadBytes.field-0-is c.in-Err-BadBytes.ensures.gives
