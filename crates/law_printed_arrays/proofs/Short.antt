-- Values whose numbers a machine word holds.
use Rattle.std.proofs.Common.{◌<◌, ◌^◌}
use Rattle.std.specs.Prelude.{⊤}
use Rattle.serde_json.specs.Data.{Data, Items, Members, Num, array, boolean, float, item, member, negative, no_items, no_members, null, number, object, string, unsigned}

-- a whole number that a machine word holds
abbrev pub IsShortNumber : Num → Type 0
IsShortNumber (unsigned n) = n < 2 ^ 64
IsShortNumber (negative z) = ⊥
IsShortNumber (float x) = ⊥

-- all numbers of a value are such
abbrev mutual
  pub IsShort : Data → Type 0
  IsShort null = ⊤
  IsShort (boolean b) = ⊤
  IsShort (number n) = IsShortNumber n
  IsShort (string s) = ⊤
  IsShort (array ds) = AreShortItems ds
  IsShort (object ms) = AreShortMembers ms

  pub AreShortItems : Items → Type 0
  AreShortItems no_items = ⊤
  AreShortItems (item d ds) = IsShort d × AreShortItems ds

  pub AreShortMembers : Members → Type 0
  AreShortMembers no_members = ⊤
  AreShortMembers (member k d ms) = IsShort d × AreShortMembers ms
