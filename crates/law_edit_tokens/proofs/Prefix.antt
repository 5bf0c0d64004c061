-- Before a change the tokens stay.
use Rattle.std.proofs.Common.{◌≡◌, ◌⊎◌, inl, inr, ℕ, ◌+◌, ◌-◌, ◌<◌, ◌≤◌, Bool, true, false, List, [], ◌∷◌, length, get_or, drop, sym, refl, ap, ◌∙◌, subst, arith}
use Rattle.std.proofs.lemmas.Bool.{cases_lt, cases_Bool, false≢true, eqb-true}
use Rattle.std.proofs.lemmas.Bool.Decides.{nat_tests}
use Rattle.std.proofs.lemmas.Grind.{common_steps}
use Rattle.std.proofs.lemmas.List.{get_or-drop, drop-drop}
use Rattle.std.proofs.lemmas.List.Sums.{prefix_len_is, prefix_len_passes, prefix_len-le-length}
use Rattle.std.specs.Prelude.{◌==◌, ◌&&◌, ◌||◌, not, if◌then◌else◌}
use Rattle.std.specs.List.{prefix_len}
use Rattle.std.specs.Char.{is_ascii_digit}
use Rattle.law_renumber.specs.sql_token.declared.token.Tok.{Tok}
use Rattle.law_renumber.specs.sql_token.declared.token.TokKind.{TokKind}
use Rattle.law_renumber.specs.sql_token.declared.token.TokKind.TheVariants.{Blank, LineComment, BlockComment, Word, Quoted, Str, UName, Dollar, Param, Number, Op, Punct, Other}
use Rattle.law_renumber.specs.sql_token.Quote.{IsQuoted, IsDollar, begins_dollar, delimiter_len, is_tag, quoted_item}
use Rattle.law_renumber.specs.sql_token.Token.{Text, runs_over, is_word, is_op, is_e, is_prefix, begins_str, begins_unicode, begins_word, begins_op, kind_of, str_body, IsRun, IsOp, Takes, At, Leads}
use Rattle.law_renumber.proofs.of_sql_token.Ahead.{Agree}
use Rattle.law_edit_tokens.specs.Exchange.{LastTwoStay, LastStays}
use Rattle.law_edit_tokens.proofs.Same.{agree_drop, agree_sym, dollar_begins_same, items_grow, comment_grows}
use Rattle.law_edit_tokens.proofs.KindOf.{op_begun, op_kind_is, comment_kind_is, word_kind_is, dollar_kind}
use Rattle.law_edit_tokens.proofs.Near.{Near, kind_near, takes_near}
use Rattle.law_edit_tokens.proofs.Ops.{op_near}

-- ---- a dollar sign

-- the tag at the front of a token lies within it, and where it ends with it no dollar sign follows
record Tag (w : Text) (n : ℕ) : Type 0 where
  pub within : prefix_len is_tag w ≤ n
  pub bare : prefix_len is_tag w ≡ n → get_or w n 0 ≡ 36 → ⊥

no_tag : (w : Text) (n : ℕ) → 0 < n → is_tag (get_or w 0 0) ≡ false → Tag w n
no_tag w n some h =
    let none : prefix_len is_tag w ≡ 0 = prefix_len_is is_tag w 0 0 (omega arith) (λ k low. absurd (omega arith)) (λ _. h) in
    record { within = omega arith; bare = λ e dollar. absurd (omega arith) }

one_tag : (w : Text) (n : ℕ) → 1 < n → is_tag (get_or w 1 0) ≡ false → Tag w n
one_tag w n some h =
    elim (cases_lt 1 (prefix_len is_tag w)) [
      | inl more ↦ absurd (false≢true (sym h ∙ prefix_len_passes is_tag w 1 0 more))
      | inr few ↦ record { within = omega arith; bare = λ e dollar. absurd (omega arith) }
    ]

tag_word : (b : ℕ) → is_tag b ≡ true → is_word b ≡ true
tag_word b h = grind (arith, nat_tests)

tag_begins : (b : ℕ) → is_tag b ≡ true → is_ascii_digit b ≡ false → begins_word b ≡ true
tag_begins b h d = grind (arith, nat_tests)

word_tag : (w : Text) (n : ℕ) → IsRun Word w 1 n → Tag w n
word_tag w n run =
    let within = run.within in
    let begun = run.begun in
    record {
      within = elim (cases_lt n (prefix_len is_tag w)) [
        | inl more ↦
            let le = prefix_len-le-length is_tag w in
            absurd (false≢true (sym (run.stops (omega arith)) ∙ tag_word (get_or w n 0) (prefix_len_passes is_tag w n 0 more)))
        | inr few ↦ few
      ];
      bare = λ e dollar. elim (cases_lt n (length w)) [
        | inl low ↦ absurd (false≢true (sym (run.stops low) ∙ ap is_word dollar))
        | inr past ↦ absurd (past_zero w n past dollar)
      ];
    }
  where
    past_zero : (w : Text) (n : ℕ) → length w ≤ n → get_or w n 0 ≡ 36 → ⊥
    past_zero w n past e = grind (arith, common_steps)

quoted_long : (quote : ℕ) (escapes : Bool) (z : Text) (from n : ℕ) → IsQuoted quote escapes z from n → from < n
quoted_long quote escapes z from n p = let grows = items_grow _ (quoted_item quote escapes z) p.ends.items in omega (arith, p.length)

tag_bytes : (b : ℕ) → is_tag b ≡ true → ((b == 39) ≡ false) × ((b == 38) ≡ false)
tag_bytes b h = (grind (arith, nat_tests), grind (arith, nat_tests))

no_prefix : (p : Bool) (c : ℕ) → (c == 39) ≡ false → (p && c == 39) ≡ false
no_prefix p c h = grind (arith, nat_tests)

no_unicode : (p : Bool) (c d : ℕ) → (c == 38) ≡ false → (p && c == 38 && d == 39) ≡ false
no_unicode p c d h = grind (arith, nat_tests)

str_second : (b c d : ℕ) → is_tag b ≡ true → (b == 39 || (is_prefix b && c == 39) || ((b == 117 || b == 85) && c == 38 && d == 39)) ≡ true → is_tag c ≡ false
str_second b c d t h =
    elim (cases_Bool (is_tag c)) [
      | inr none ↦ none
      | inl tag ↦
          let bytes = tag_bytes c tag in
          let one = (tag_bytes b t).0 in
          let two = no_prefix (is_prefix b) c bytes.0 in
          let three = no_unicode (b == 117 || b == 85) c d bytes.1 in
          absurd (false≢true (sym (λ x. one x || two x || three x) ∙ h))
    ]

str_body_some : (b c : ℕ) → 1 ≤ (if b == 39 then 1 else (if c == 39 then 2 else 3))
str_body_some b c = grind (arith, nat_tests)

unicode_second : (b c d : ℕ) → ((b == 117 || b == 85) && c == 38 && d == 34) ≡ true → is_tag c ≡ false
unicode_second b c d h = grind (arith, nat_tests)

token_tag : (w : Text) (k : TokKind) (n : ℕ) → k ≡ kind_of false w → Takes false k w n → 0 < n → is_ascii_digit (get_or w 0 0) ≡ false → Tag w n
token_tag w k n kind takes some digit =
    elim (cases_Bool (is_tag (get_or w 0 0))) [
      | inr none ↦ no_tag w n some none
      | inl tag ↦
          let told = kind ∙ word_kind_is false w (tag_begins (get_or w 0 0) tag digit) refl in
          elim (cases_Bool (begins_str w)) [
            | inl str ↦
                let is : k ≡ Str = told ∙ (λ x. if str x then Str else (if begins_unicode 34 w then UName else Word)) in
                let long = quoted_long 39 (is_e (get_or w 0 0)) w (str_body w) n (subst (λ (x : TokKind). Takes false x w n) is takes) in
                let one : 1 ≤ str_body w = str_body_some (get_or w 0 0) (get_or w 1 0) in
                one_tag w n (omega arith) (str_second (get_or w 0 0) (get_or w 1 0) (get_or w 2 0) tag str)
            | inr other ↦
                elim (cases_Bool (begins_unicode 34 w)) [
                  | inl name ↦
                      let is : k ≡ UName = told ∙ (λ x. if other x then Str else (if name x then UName else Word)) in
                      let long = quoted_long 34 false w 3 n (subst (λ (x : TokKind). Takes false x w n) is takes) in
                      one_tag w n (omega arith) (unicode_second (get_or w 0 0) (get_or w 1 0) (get_or w 2 0) name)
                  | inr plain ↦
                      let is : k ≡ Word = told ∙ (λ x. if other x then Str else (if plain x then UName else Word)) in
                      word_tag w n (subst (λ (x : TokKind). Takes false x w n) is takes)
                ]
          ]
    ]

dollar_parts : (b c d : ℕ) → ((b == 36) ≡ false) → (b == 36 && not (is_ascii_digit c) && d == 36) ≡ false
dollar_parts b c d h = λ x. h x && not (is_ascii_digit c) && d == 36

no_dollar : (z : Text) → (get_or z 0 0 == 36) ≡ false → begins_dollar z ≡ false
no_dollar z h = dollar_parts (get_or z 0 0) (get_or z 1 0) (get_or z (delimiter_len z - 1) 0) h

digit_dollar : (b c d : ℕ) → is_ascii_digit c ≡ true → (b == 36 && not (is_ascii_digit c) && d == 36) ≡ false
digit_dollar b c d h = grind (arith, nat_tests)

bare_dollar : (b c d : ℕ) → (d ≡ 36 → ⊥) → (b == 36 && not (is_ascii_digit c) && d == 36) ≡ false
bare_dollar b c d h = grind (arith, nat_tests)

-- A dollar sign begins a dollar quote in both texts or in none, where the token after it is the same.
lone_dollar : (z y : Text) (m q : ℕ) (kz ky : TokKind) → Agree z y m → 1 + q ≤ m → 0 < q → is_ascii_digit (get_or z 1 0) ≡ false →
    kz ≡ kind_of false (drop 1 z) → Takes false kz (drop 1 z) q → ky ≡ kind_of false (drop 1 y) → Takes false ky (drop 1 y) q → begins_dollar z ≡ begins_dollar y
lone_dollar z y m q kz ky a h some digit kind takes kind' takes' =
    let second = a.same 1 (omega arith) in
    let first_z = get_or-drop 1 z 0 0 in
    let first_y = get_or-drop 1 y 0 0 in
    let tz = token_tag (drop 1 z) kz q kind takes some (ap is_ascii_digit first_z ∙ digit) in
    let ty = token_tag (drop 1 y) ky q kind' takes' some (ap is_ascii_digit (first_y ∙ sym second) ∙ digit) in
    let near_z = tz.within in
    let near_y = ty.within in
    elim (cases_lt (prefix_len is_tag (drop 1 z)) q) [
      | inl short ↦ dollar_begins_same z y m a (omega arith)
      | inr all ↦ elim (cases_lt (prefix_len is_tag (drop 1 y)) q) [
        | inl short ↦ sym (dollar_begins_same y z m (agree_sym z y m a) (omega arith))
        | inr full ↦ none z tz (omega arith) ∙ sym (none y ty (omega arith))
      ]
    ]
  where
    none : (x : Text) → Tag (drop 1 x) q → prefix_len is_tag (drop 1 x) ≡ q → begins_dollar x ≡ false
    none x tag e =
        let place : 1 + q ≡ delimiter_len x - 1 = omega arith in
        let byte : get_or (drop 1 x) q 0 ≡ get_or x (delimiter_len x - 1) 0 = get_or-drop 1 x q 0 ∙ ap (λ (i : ℕ). get_or x i 0) place in
        bare_dollar (get_or x 0 0) (get_or x 1 0) (get_or x (delimiter_len x - 1) 0) (λ d. tag.bare e (byte ∙ d))

dollar_near : (s : Bool) (k : TokKind) (z y : Text) (n m q : ℕ) (kz ky : TokKind) → Agree z y m → n + q ≤ m → 0 < n → 0 < q →
    k ≡ kind_of s z → Takes s k z n →
    kz ≡ kind_of false (drop n z) → Takes false kz (drop n z) q → ky ≡ kind_of false (drop n y) → Takes false ky (drop n y) q → begins_dollar z ≡ begins_dollar y
dollar_near s k z y n m q kz ky a h some bytes kind takes qk qt rk rt =
    let first = a.same 0 (omega arith) in
    let second = a.same 1 (omega arith) in
    elim (cases_Bool (get_or z 0 0 == 36)) [
      | inr other ↦ no_dollar z other ∙ sym (no_dollar y (sym (ap (λ (x : ℕ). x == 36) first) ∙ other))
      | inl sign ↦
          let told = kind ∙ dollar_kind s z (eqb-true (get_or z 0 0) 36 sign) in
          elim (cases_Bool (begins_dollar z)) [
            | inl begins ↦
                let is : k ≡ Dollar = told ∙ (λ x. if begins x then Dollar else (if is_ascii_digit (get_or z 1 0) then Param else Other)) in
                let p : IsDollar z n = subst (λ (x : TokKind). Takes s x z n) is takes in
                dollar_begins_same z y m a (omega (arith, p.length))
            | inr not_dollar ↦
                elim (cases_Bool (is_ascii_digit (get_or z 1 0))) [
                  | inl digit ↦
                      digit_dollar (get_or z 0 0) (get_or z 1 0) (get_or z (delimiter_len z - 1) 0) digit
                      ∙ sym (digit_dollar (get_or y 0 0) (get_or y 1 0) (get_or y (delimiter_len y - 1) 0) (sym (ap is_ascii_digit second) ∙ digit))
                  | inr no_digit ↦
                      let is : k ≡ Other = told ∙ (λ x. if not_dollar x then Dollar else (if no_digit x then Param else Other)) in
                      let one : n ≡ 1 = subst (λ (x : TokKind). Takes s x z n) is takes in
                      lone_dollar z y m q kz ky a (omega arith) bytes no_digit
                      (subst (λ (x : ℕ). kz ≡ kind_of false (drop x z)) one qk) (subst (λ (x : ℕ). Takes false kz (drop x z) q) one qt)
                      (subst (λ (x : ℕ). ky ≡ kind_of false (drop x y)) one rk) (subst (λ (x : ℕ). Takes false ky (drop x y) q) one rt)
                ]
          ]
    ]

-- ---- what follows a token

line_long : (w : Text) (n : ℕ) → get_or w 1 0 ≡ 45 → IsRun LineComment w 1 n → 2 ≤ n
line_long w n e run =
    let begun = run.begun in
    elim (cases_lt 1 n) [
      | inl more ↦ more
      | inr few ↦
          let one : n ≡ 1 = omega arith in
          let some : 1 < length w = some_bytes w e in
          let stops = subst (λ (x : ℕ). x < length w → runs_over LineComment w x ≡ false) one run.stops some in
          absurd (false≢true (sym stops ∙ ap (λ (b : ℕ). not (b == 10)) e))
    ]
  where
    some_bytes : (w : Text) → get_or w 1 0 ≡ 45 → 1 < length w
    some_bytes w e = grind (arith, common_steps)

comment_long : (w : Text) (k : TokKind) (n : ℕ) → k ≡ kind_of false w → Takes false k w n → is_op (get_or w 0 0) ≡ true → begins_op w ≡ false → 2 ≤ n
comment_long w k n kind takes op other =
    elim (comment_kind_is false w op other) [
      | inl line ↦ line_long w n line.1 (subst (λ (x : TokKind). Takes false x w n) (kind ∙ line.0) takes)
      | inr block ↦ let grows = comment_grows w (subst (λ (x : TokKind). Takes false x w n) (kind ∙ block) takes) in omega arith
    ]

calm_next : (z : Text) (k : TokKind) (n m q : ℕ) → n + q ≤ m → k ≡ kind_of false (drop n z) → Takes false k (drop n z) q → (k ≡ Op → ⊥) ⊎ (n + 2 ≤ m) →
    (is_op (get_or z n 0) ≡ false) ⊎ (n + 2 ≤ m)
calm_next z k n m q h kind takes (inr far) = inr far
calm_next z k n m q h kind takes (inl other) =
    let zero : n + 0 ≡ n = omega arith in
    let here : get_or (drop n z) 0 0 ≡ get_or z n 0 = get_or-drop n z 0 0 ∙ ap (λ (x : ℕ). get_or z x 0) zero in
    elim (cases_Bool (is_op (get_or (drop n z) 0 0))) [
      | inr none ↦ inl (sym (ap is_op here) ∙ none)
      | inl op ↦ elim (cases_Bool (begins_op (drop n z))) [
        | inl begins ↦ absurd (other (kind ∙ op_kind_is false (drop n z) begins))
        | inr no_begin ↦ let long = comment_long (drop n z) k q kind takes op no_begin in inr (omega arith)
      ]
    ]

pub is_operator : (k : TokKind) → (k ≡ Op) ⊎ (k ≡ Op → ⊥)
is_operator Op = inl refl
is_operator Blank = inr (λ e. cc)
is_operator LineComment = inr (λ e. cc)
is_operator BlockComment = inr (λ e. cc)
is_operator Word = inr (λ e. cc)
is_operator Quoted = inr (λ e. cc)
is_operator Str = inr (λ e. cc)
is_operator UName = inr (λ e. cc)
is_operator Dollar = inr (λ e. cc)
is_operator Param = inr (λ e. cc)
is_operator Number = inr (λ e. cc)
is_operator Punct = inr (λ e. cc)
is_operator Other = inr (λ e. cc)

same_begins : (w x : Text) (k : TokKind) → k ≡ kind_of false w → k ≡ kind_of false x → begins_op w ≡ begins_op x
same_begins w x k p q = by (begins_op w) (begins_op x) refl refl
  where
    by : (a b : Bool) → begins_op w ≡ a → begins_op x ≡ b → begins_op w ≡ begins_op x
    by true true e f = e ∙ sym f
    by false false e f = e ∙ sym f
    by true false e f = absurd (false≢true (sym f ∙ op_begun false x (sym q ∙ p ∙ op_kind_is false w e)))
    by false true e f = absurd (false≢true (sym e ∙ op_begun false w (sym p ∙ q ∙ op_kind_is false x f)))

-- What a token of n bytes of z is in y, where the next one, of q bytes, is the same.
pub record Stays (s : Bool) (k : TokKind) (z y : Text) (n : ℕ) : Type 0 where
  pub kind : kind_of s z ≡ kind_of s y
  pub takes : Takes s k y n

pub stays : (s : Bool) (k next : TokKind) (z y : Text) (n m q : ℕ) → Agree z y m → n + q ≤ m → 0 < n → 0 < q →
    k ≡ kind_of s z → Takes s k z n →
    next ≡ kind_of false (drop n z) → Takes false next (drop n z) q →
    next ≡ kind_of false (drop n y) → Takes false next (drop n y) q →
    (next ≡ Op → ⊥) ⊎ (n + 2 ≤ m) → Stays s k z y n
stays s k next z y n m q a h some bytes kind takes zk zt yk yt ahead =
    let near : Near z y n m = record { agree = a; next = omega arith; calm = calm_next z next n m q h zk zt ahead } in
    let dollar = dollar_near s k z y n m q next next a h some bytes kind takes zk zt yk yt in
    record {
      kind = kind_near s k z y n m near some kind takes dollar;
      takes = elim (is_operator k) [
        | inr other ↦ takes_near s k other z y n m near some kind takes
        | inl is ↦
            let op : IsOp z n = subst (λ (x : TokKind). Takes s x z n) is takes in
            let moved : IsOp y n = op_near z y n m q a h some bytes (same_begins (drop n z) (drop n y) next zk yk)
            (λ goes.
            let op_next : next ≡ Op = zk ∙ op_kind_is false (drop n z) goes in
            (subst (λ (x : TokKind). Takes false x (drop n z) q) op_next zt, subst (λ (x : TokKind). Takes false x (drop n y) q) op_next yt)) op in
            subst (λ (x : TokKind). Takes s x y n) (sym is) moved
      ];
    }

-- ---- at places

pub not_first : (i : ℕ) → 0 < i → (i == 0) ≡ false
not_first i h = grind (arith, common_steps)

-- A token stays where the token after it does, and both texts are the same up to where that one ends: and one byte
-- further where it is an operator.
pub at_prefix : (t u : Text) (i j e c : ℕ) (k next : TokKind) → Agree t u c → e ≤ c → At t i k j → At t j next e → At u j next e → (next ≡ Op → ⊥) ⊎ (j + 2 ≤ c) → At u i k j
at_prefix t u i j e c k next a h here after moved ahead =
    let before = here.before in
    let before' = after.before in
    let there = a.there in
    let rest = agree_drop t u c i (omega arith) a in
    let flag = not_first j (omega arith) in
    let place : i + (j - i) ≡ j = omega arith in
    let zt : drop j t ≡ drop (j - i) (drop i t) = sym (drop-drop (j - i) i t ∙ ap (λ (x : ℕ). drop x t) place) in
    let zu : drop j u ≡ drop (j - i) (drop i u) = sym (drop-drop (j - i) i u ∙ ap (λ (x : ℕ). drop x u) place) in
    let result = stays (i == 0) k next (drop i t) (drop i u) (j - i) (c - i) (e - j) rest (omega arith) (omega arith) (omega arith)
    here.kind here.takes
    (after.kind ∙ (λ x. kind_of (flag x) (zt x)))
    (subst (λ (z : Text). Takes false next z (e - j)) zt (subst (λ (s : Bool). Takes s next (drop j t) (e - j)) flag after.takes))
    (moved.kind ∙ (λ x. kind_of (flag x) (zu x)))
    (subst (λ (z : Text). Takes false next z (e - j)) zu (subst (λ (s : Bool). Takes s next (drop j u) (e - j)) flag moved.takes))
    (ahead_moved ahead (omega arith)) in
    record {
      before = before;
      within = omega arith;
      kind = here.kind ∙ result.kind;
      takes = result.takes;
    }
  where
    ahead_moved : (next ≡ Op → ⊥) ⊎ (j + 2 ≤ c) → i < j → (next ≡ Op → ⊥) ⊎ (j - i + 2 ≤ c - i)
    ahead_moved (inl other) l = inl other
    ahead_moved (inr far) l = inr (omega arith)

-- ---- lists of tokens

pub leads_grow : (t : Text) (i c : ℕ) (ks : List Tok) → Leads t i ks c → i ≤ c
leads_grow t i c [] lead = omega (arith, lead)
leads_grow t i c (k ∷ ks) lead = let before = lead.1.before in let rest = leads_grow t k.end c ks lead.2 in omega arith

pub prefix_stays : (t u : Text) (c : ℕ) → Agree t u c → (i : ℕ) (ks : List Tok) → Leads t i ks c → LastStays u i ks → Leads u i ks c
prefix_stays t u c a i [] lead last = lead
prefix_stays t u c a i (k ∷ []) lead last = (lead.0, last.0, lead.2)
prefix_stays t u c a i (k ∷ l ∷ []) lead last =
    let end : l.end ≡ c = lead.2.2 in
    (lead.0, at_prefix t u i k.end l.end c k.kind l.kind a (omega arith) lead.1 lead.2.1 last.0 (inl last.1), (lead.2.0, last.0, lead.2.2))
prefix_stays t u c a i (k ∷ l ∷ m ∷ ks) lead last =
    let rest = prefix_stays t u c a k.end (l ∷ m ∷ ks) lead.2 last in
    let grows = leads_grow t m.end c ks lead.2.2.2 in
    let before = lead.2.1.before in
    let before' = lead.2.2.1.before in
    (lead.0, at_prefix t u i k.end l.end c k.kind l.kind a (omega arith) lead.1 lead.2.1 rest.1 (inr (omega arith)), rest)

pub two_stay : (t u : Text) (c : ℕ) → Agree t u c → (i : ℕ) (ks : List Tok) → Leads t i ks c → LastTwoStay u i ks → Leads u i ks c
two_stay t u c a i [] lead last = lead
two_stay t u c a i (k ∷ []) lead last = (lead.0, last, lead.2)
two_stay t u c a i (k ∷ l ∷ []) lead last = (lead.0, last.0, (lead.2.0, last.1, lead.2.2))
two_stay t u c a i (k ∷ l ∷ m ∷ ks) lead last =
    let rest = two_stay t u c a k.end (l ∷ m ∷ ks) lead.2 last in
    let grows = leads_grow t m.end c ks lead.2.2.2 in
    let before = lead.2.1.before in
    let before' = lead.2.2.1.before in
    (lead.0, at_prefix t u i k.end l.end c k.kind l.kind a (omega arith) lead.1 lead.2.1 rest.1 (inr (omega arith)), rest)
