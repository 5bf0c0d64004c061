-- A front part of a writing, joined to other writings.
use Rattle.std.proofs.Common.{◌≡◌, ℕ, List, [], ◌++◌, sym, ap, ◌∙◌, append_assoc, append-nil, take, drop, take-append-drop, length, ◌-◌, arith, length-drop}
use Rattle.std.proofs.lemmas.List.{take_all}
use Rattle.std.specs.declared.option.Option.{Option}
use Rattle.std.specs.Io.KnownBytes.{Appends, Keeps}
use Rattle.std.proofs.KnownBytes.{Appends-trans, Appends-kept}
use Rattle.devices.specs.Parts.{AppendsPart}

-- the whole is a part
pub part_whole : (a b : Option (List ℕ)) (xs : List ℕ) → Appends a b xs → AppendsPart a b xs
part_whole a b xs h = record { put = xs; rest = []; is = append-nil xs; appended = h }

-- a part of the front
pub part_more : (a b : Option (List ℕ)) (xs ys : List ℕ) → AppendsPart a b xs → AppendsPart a b (xs ++ ys)
part_more a b xs ys p = record {
  put = p.put;
  rest = p.rest ++ ys;
  is = sym (append_assoc p.put p.rest ys) ∙ ap (λ l. l ++ ys) p.is;
  appended = p.appended;
}

-- the front, and then a part of what follows
pub part_after : (a b c : Option (List ℕ)) (xs ys : List ℕ) → Appends a b xs → AppendsPart b c ys → AppendsPart a c (xs ++ ys)
part_after a b c xs ys h p = record {
  put = xs ++ p.put;
  rest = p.rest;
  is = append_assoc xs p.put p.rest ∙ ap (λ l. xs ++ l) p.is;
  appended = Appends-trans a b c xs p.put h p.appended;
}

-- the first i, and then a failure
pub part_kept : (a b c : Option (List ℕ)) (i : ℕ) (xs : List ℕ) → Appends a b (take i xs) → Keeps b c → AppendsPart a c xs
part_kept a b c i xs h k = record {
  put = take i xs;
  rest = drop i xs;
  is = take-append-drop i xs;
  appended = Appends-kept a b c (take i xs) h k;
}

-- `&xs[i..]` as a call is passed it
pub rest_is : (i : ℕ) (xs : List ℕ) → take (length xs - i) (drop i xs) ≡ drop i xs
rest_is i xs = take_all (length xs - i) (drop i xs) (omega (arith, length-drop i xs))
