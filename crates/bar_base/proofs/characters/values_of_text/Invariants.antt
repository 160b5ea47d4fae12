use Rattle.std.proofs.Common.{◌≡◌, ◌*◌, ◌<◌, ◌≤◌, All, take, vec_len}
use Rattle.std.specs.List.{flat_map}
use Rattle.bar_base.proofs.characters.values_of_text.Given as goal

abbrev pub invariant-loop-byte : goal.invariant-loop-byte
invariant-loop-byte g l = record {
  whole : l.values.items ≡ flat_map g.C.Characters.values (take l.byte-index l.text);
  bounded : All (λ value. value < g.C.Characters.bound) l.values.items;
  few : vec_len l.values ≤ g.C.Characters.longest * l.byte-index;
}
