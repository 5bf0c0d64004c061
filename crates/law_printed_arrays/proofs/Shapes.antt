-- From the outline of an array back to the findings.
use Rattle.std.proofs.Common.{◌≡◌, ◌∙◌, ◌+◌, List, [], ◌∷◌, ◌++◌, All, Option, Some, None, ap, arith, map, refl, sym}
use Rattle.std.proofs.lemmas.List.Elements.{All-head, All-tail}
use Rattle.law_printed_lines.specs.check_print.Found.{Found}
use Rattle.json.specs.Json as json
use Rattle.json.specs.Token.{Token}
use Rattle.json.specs.Tree.{HasNumbers, ItemsHaveNumbers, MembersHaveNumbers, depth, json_tokens}
use Rattle.json.proofs.Printed.Decimals.{IsNumber-decimal}
use Rattle.json.proofs.Printed.Trees.{value-json_tokens}
use Rattle.serde_json.specs.Data.{Data, Items, Members, array, boolean, item, member, no_items, no_members, null, number, object, string, unsigned, negative, float}
use Rattle.serde_json.specs.View.{items_of}
use Rattle.serde_json.specs.Written.{items_outline, members_outline, outline}
use Rattle.law_printed_arrays.proofs.Short.{AreShortItems, AreShortMembers, IsShort}
use Rattle.law_printed_arrays.proofs.Spaced.{array_of}

-- ---- numbers

mutual
  short_numbers : (d : Data) → IsShort d → HasNumbers (outline d)
  short_numbers null h = tt
  short_numbers (boolean b) h = tt
  short_numbers (number (unsigned n)) h = IsNumber-decimal n h
  short_numbers (number (negative z)) h = absurd h
  short_numbers (number (float x)) h = absurd h
  short_numbers (string s) h = tt
  short_numbers (array ds) h = short_items ds h
  short_numbers (object ms) h = short_members ms h

  short_items : (ds : Items) → AreShortItems ds → ItemsHaveNumbers (items_outline ds)
  short_items no_items h = tt
  short_items (item d ds) h = (short_numbers d h.0, short_items ds h.1)

  short_members : (ms : Members) → AreShortMembers ms → MembersHaveNumbers (members_outline ms)
  short_members no_members h = tt
  short_members (member k d ms) h = (short_numbers d h.0, short_members ms h.1)

-- all numbers of what is printed are short
abbrev pub Short : (Found → Members) → List Found → Type 0
Short members fs = All (λ f. IsShort (object (members f))) fs

numbers_of : (members : Found → Members) (fs : List Found) → Short members fs → ItemsHaveNumbers (items_outline (items_of (map object (map members fs))))
numbers_of members [] h = tt
numbers_of members (f ∷ fs) h =
    let P : Found → Type 0 = λ f. IsShort (object (members f)) in
    (short_numbers (object (members f)) (All-head P f fs h), numbers_of members fs (All-tail P f fs h))

pub has_numbers : (members : Found → Members) (fs : List Found) → Short members fs → HasNumbers (outline (array_of (map members fs)))
has_numbers members fs h = numbers_of members fs h

-- ---- one value for the tokens of two

abbrev value_in : Option (json.Json × List Token) → json.Json
value_in None = json.null
value_in (Some p) = p.0

pub same_value : (j k : json.Json) → json_tokens j ≡ json_tokens k → j ≡ k
same_value j k e =
    let room = depth j + depth k in
    let first : json.value room (json_tokens j ++ []) ≡ Some (j, []) = value-json_tokens j room [] (omega arith) in
    let second : json.value room (json_tokens k ++ []) ≡ Some (k, []) = value-json_tokens k room [] (omega arith) in
    ap value_in (sym first ∙ ap (λ ts. json.value room (ts ++ [])) e ∙ second)

-- ---- the items of an array

abbrev pub first_in : json.Items → json.Json
first_in json.no_items = json.null
first_in (json.item j js) = j

abbrev rest_in : json.Items → json.Items
rest_in json.no_items = json.no_items
rest_in (json.item j js) = js

abbrev pub items_in : json.Json → json.Items
items_in json.null = json.no_items
items_in (json.boolean b) = json.no_items
items_in (json.number s) = json.no_items
items_in (json.string s) = json.no_items
items_in (json.array js) = js
items_in (json.object ms) = json.no_items

-- two things of which P and Q hold are alike for a reader where the same is printed for both
abbrev pub LeadsBack : {A T : Type 0} → (A → Data) → (A → Data) → (A → Type 0) → (A → Type 0) → (A → T) → Type 0
LeadsBack {A} printed other P Q tell = (a b : A) → P a → Q b → outline (printed a) ≡ outline (other b) → tell a ≡ tell b

map_same : {A : Type 0} (xs : List A) → map (λ x. x) xs ≡ xs
map_same [] = refl
map_same (x ∷ xs) = ap (λ l. x ∷ l) (map_same xs)

-- so it is of two lists
pub all_same : {A T : Type 0} (printed other : A → Data) (P Q : A → Type 0) (tell : A → T) → LeadsBack printed other P Q tell → (xs ys : List A) → All P xs → All Q ys
    → items_outline (items_of (map printed xs)) ≡ items_outline (items_of (map other ys)) → map tell xs ≡ map tell ys
all_same printed other P Q tell leads [] [] p q e = refl
all_same printed other P Q tell leads [] (y ∷ ys) p q e = cc
all_same printed other P Q tell leads (x ∷ xs) [] p q e = cc
all_same printed other P Q tell leads (x ∷ xs) (y ∷ ys) p q e =
    let one = leads x y (All-head P x xs p) (All-head Q y ys q) (ap first_in e) in
    let more = all_same printed other P Q tell leads xs ys (All-tail P x xs p) (All-tail Q y ys q) (ap rest_in e) in
    ap (λ t. t ∷ map tell xs) one ∙ ap (λ ts. tell y ∷ ts) more

-- two lists are the same where what is printed of each two things leads back to them
pub all_equal : {A : Type 0} (printed other : A → Data) (P Q : A → Type 0) → LeadsBack printed other P Q (λ x. x) → (xs ys : List A) → All P xs → All Q ys
    → items_outline (items_of (map printed xs)) ≡ items_outline (items_of (map other ys)) → xs ≡ ys
all_equal printed other P Q leads xs ys p q e = sym (map_same xs) ∙ all_same printed other P Q (λ x. x) leads xs ys p q e ∙ map_same ys

fused : (members : Found → Members) (fs : List Found) → map object (map members fs) ≡ map (λ f. object (members f)) fs
fused members [] = refl
fused members (f ∷ fs) = ap (λ ds. object (members f) ∷ ds) (fused members fs)

-- so it is of all findings
pub same_findings : {T : Type 0} (members : Found → Members) (P : Found → Type 0) (tell : Found → T) → LeadsBack (λ f. object (members f)) (λ f. object (members f)) P P tell → (fs gs : List Found) → All P fs → All P gs
    → outline (array_of (map members fs)) ≡ outline (array_of (map members gs)) → map tell fs ≡ map tell gs
same_findings members P tell leads fs gs p q e =
    all_same (λ f. object (members f)) (λ f. object (members f)) P P tell leads fs gs p q
    (ap (λ ds. items_outline (items_of ds)) (sym (fused members fs)) ∙ ap items_in e ∙ ap (λ ds. items_outline (items_of ds)) (fused members gs))
