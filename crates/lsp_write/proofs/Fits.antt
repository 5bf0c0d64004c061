-- JSON that has no float and is not deep.
use Rattle.std.proofs.Common.{◌≡◌, ◌≤◌, ◌<◌, ℕ, ℤ, pos, negsuc, suc, max, Bool, false, List, [], ◌∷◌, map, Option, None, Some, refl, arith}
use Rattle.serde_json.specs.Data.{Data, Items, Members, array, boolean, depth, item, items_depth, member, members_depth, no_items, no_members, null, number, object, string, unsigned}
use Rattle.serde_json.specs.View.{items_of}
use Rattle.serde_json.specs.Written.{has_float, items_have_float, members_have_float}
use Rattle.diag_json.specs.Json.{list_json, member_if}
use Rattle.lsp_write.specs.Diagnostic.{integer_json}

pub record Fits (n : ℕ) (d : Data) : Type 0 where
  pub plain : has_float d ≡ false
  pub shallow : depth d ≤ n

pub record ItemsFit (n : ℕ) (items : Items) : Type 0 where
  pub plain : items_have_float items ≡ false
  pub shallow : items_depth items ≤ n

pub record MembersFit (n : ℕ) (members : Members) : Type 0 where
  pub plain : members_have_float members ≡ false
  pub shallow : members_depth members ≤ n

pub both : (a b n : ℕ) → a ≤ n → b ≤ n → max a b ≤ n
both a b n l m = omega (arith, l, m)

one_up : (a n m : ℕ) → a ≤ n → n < m → suc a ≤ m
one_up a n m l less = omega (arith, l, less)

-- ---- members and items

pub ends : (n : ℕ) → MembersFit n no_members
ends n = record { plain = refl; shallow = omega arith }

pub next : (n : ℕ) (key : List ℕ) (d : Data) (members : Members) → Fits n d → MembersFit n members → MembersFit n (member key d members)
next n key d members one rest =
    record {
      plain = rw one.plain rest.plain;
      shallow = both (depth d) (members_depth members) n one.shallow rest.shallow;
    }

pub then_if : (n : ℕ) (key : List ℕ) (d : Option Data) (members : Members) → ((x : Data) → d ≡ Some x → Fits n x) → MembersFit n members → MembersFit n (member_if key d members)
then_if n key None members one rest = rest
then_if n key (Some x) members one rest = next n key x members (one x refl) rest

pub items_fit : (n : ℕ) {A : Type 0} (json : A → Data) → ((x : A) → Fits n (json x)) → (xs : List A) → ItemsFit n (items_of (map json xs))
items_fit n json one [] = record { plain = refl; shallow = omega arith }
items_fit n json one (x ∷ xs) =
    let rest = items_fit n json one xs in
    record {
      plain = rw (one x).plain rest.plain;
      shallow = both (depth (json x)) (items_depth (items_of (map json xs))) n (one x).shallow rest.shallow;
    }

-- ---- values

pub leaf : (n : ℕ) (text : List ℕ) → Fits n (string text)
leaf n text = record { plain = refl; shallow = omega arith }

pub null_fits : (n : ℕ) → Fits n null
null_fits n = record { plain = refl; shallow = omega arith }

pub truth : (n : ℕ) (b : Bool) → Fits n (boolean b)
truth n b = record { plain = refl; shallow = omega arith }

pub whole : (n k : ℕ) → Fits n (number (unsigned k))
whole n k = record { plain = refl; shallow = omega arith }

pub integer : (n : ℕ) (z : ℤ) → Fits n (integer_json z)
integer n (pos k) = record { plain = refl; shallow = omega arith }
integer n (negsuc k) = record { plain = refl; shallow = omega arith }

pub in_object : (n m : ℕ) (members : Members) → n < m → MembersFit n members → Fits m (object members)
in_object n m members less fit = record { plain = fit.plain; shallow = one_up (members_depth members) n m fit.shallow less }

pub in_array : (n m : ℕ) (items : Items) → n < m → ItemsFit n items → Fits m (array items)
in_array n m items less fit = record { plain = fit.plain; shallow = one_up (items_depth items) n m fit.shallow less }

pub in_list : (n m : ℕ) {A : Type 0} (json : A → Data) (xs : List A) → n < m → ((x : A) → Fits n (json x)) → Fits m (list_json json xs)
in_list n m json xs less one = in_array n m (items_of (map json xs)) less (items_fit n json one xs)

pub one_item : (n : ℕ) (d : Data) → Fits n d → ItemsFit n (item d no_items)
one_item n d fit = record { plain = rw fit.plain refl; shallow = both (depth d) 0 n fit.shallow (omega arith) }
