-- Items end at one place alone.
use Rattle.std.proofs.Common.{◌≡◌, ℕ, ◌+◌, ◌<◌, ◌≤◌, Bool, List, length, get_or, take, drop, true, false, subst, sym, ap, ◌∙◌, refl, arith}
use Rattle.std.proofs.lemmas.Grind.{common_steps}
use Rattle.std.specs.Prelude.{nat_eq}
use Rattle.std.specs.List.{starts_with}
use Rattle.sql_token.specs.Quote.{Items, none, more, ItemsEnd, quoted_item, IsQuoted, dollar_item, delimiter_len, IsDollar}

module _ (item : ℕ → ℕ) where
  items_one : {i a b : ℕ} → Items item i a → item a ≡ 0 → Items item i b → item b ≡ 0 → a ≡ b
  items_one none s none r = refl
  items_one none s (more some rest) r = absurd (omega (arith, s))
  items_one (more some rest) s none r = absurd (omega (arith, r))
  items_one (more some rest) s (more more_ tail) r = items_one rest s tail r

  pub ends_one : {i a b : ℕ} → ItemsEnd item i a → ItemsEnd item i b → a ≡ b
  ends_one p q = items_one p.items p.stops q.items q.stops

pub quoted_one : (quote : ℕ) (escapes : Bool) (z : List ℕ) (from n m : ℕ) → IsQuoted quote escapes z from n → IsQuoted quote escapes z from m → n ≡ m
quoted_one quote escapes z from n m p q = p.length ∙ ap (λ x. x + 1) (ends_one _ p.ends q.ends) ∙ sym q.length

-- Where items lead on from i, they lead on from `from` too.
abbrev pub Joins : (ℕ → ℕ) → ℕ → ℕ → Type 0
Joins item from i = (j : ℕ) → Items item i j → Items item from j

pub joins_self : (item : ℕ → ℕ) (i : ℕ) → Joins item i i
joins_self item i j h = h

pub joins_more : (item : ℕ → ℕ) (from i : ℕ) → Joins item from i → 0 < item i → Joins item from (i + item i)
joins_more item from i joins some j h = joins j (more some h)

pub joins_end : (item : ℕ → ℕ) (from i : ℕ) → Joins item from i → item i ≡ 0 → ItemsEnd item from i
joins_end item from i joins stops = record { items = joins i none; stops = stops }

quote_within : (z : List ℕ) (i quote : ℕ) → get_or z i 0 ≡ quote → 0 < quote → i < length z
quote_within z i quote e some = grind (arith, common_steps)

-- the items end with the text, so no quote closes them
pub quoted_open : (quote : ℕ) (escapes : Bool) (z : List ℕ) (from end n : ℕ) → 0 < quote → ItemsEnd (quoted_item quote escapes z) from end → length z ≤ end → IsQuoted quote escapes z from n → ⊥
quoted_open quote escapes z from end n some ends past p =
    let same = ends_one _ p.ends ends in
    let within = quote_within z p.body quote p.closes some in
    absurd (omega arith)

pub dollar_one : (z : List ℕ) (n m : ℕ) → IsDollar z n → IsDollar z m → n ≡ m
dollar_one z n m p q = p.length ∙ ap (λ x. x + delimiter_len z) (ends_one _ p.ends q.ends) ∙ sym q.length

pub dollar_open : (z : List ℕ) (end n : ℕ) → ItemsEnd (dollar_item (take (delimiter_len z) z) z) (delimiter_len z) end → length z ≤ end → IsDollar z n → ⊥
dollar_open z end n ends past p = let same = ends_one _ p.ends ends in let within = p.within in absurd (omega arith)

pub joins_byte : (item : ℕ → ℕ) (from i : ℕ) → Joins item from i → item i ≡ 1 → Joins item from (i + 1)
joins_byte item from i joins one j h = joins j (more (omega (arith, one)) (subst (λ (x : ℕ). Items item (i + x) j) (sym one) h))

pub dollar_byte : (mark z : List ℕ) (i : ℕ) → i < length z → starts_with nat_eq (drop i z) mark ≡ false → dollar_item mark z i ≡ 1
dollar_byte mark z i within other = grind (arith, common_steps)

pub dollar_stops : (mark z : List ℕ) (i : ℕ) → starts_with nat_eq (drop i z) mark ≡ true → dollar_item mark z i ≡ 0
dollar_stops mark z i stands = grind (arith, common_steps)

pub dollar_past : (mark z : List ℕ) (i : ℕ) → length z ≤ i → dollar_item mark z i ≡ 0
dollar_past mark z i past = grind (arith, common_steps)
