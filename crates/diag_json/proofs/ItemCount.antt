-- A list has no more items than the text has bytes that it is the value of: each item takes a token, and each token a byte.
use Rattle.std.proofs.Common.{◌≡◌, ℕ, zero, suc, ◌<◌, ◌≤◌, Bool, true, false, List, [], ◌∷◌, length, Option, Some, None, option_map, option_and_then, refl, subst, ap, arith}
use Rattle.std.specs.Prelude.{⊤, IfSome}
use Rattle.json.specs.Json as json
use Rattle.json.specs.Json.{Parse, parse_map, items_step, after_end_array}
use Rattle.json.specs.Lex.{Lexeme, token, comma, colon, Mode, between, in_word, in_string, in_escape, Class, quote, backslash, operator, space, other, class, lex, lex_byte, Place, fresh, after_value, after_comma, after_key, begins_colon, if_allowed, may_begin, may_close, place_token, punctuate, tokens}
use Rattle.json.specs.Token.{Token}
use Rattle.serde_json.specs.Data.{Data, Items, array, boolean, item, no_members, null, number, object, string}
use Rattle.serde_json.specs.Events.{items_len}
use Rattle.serde_json.specs.Find.{as_array}
use Rattle.serde_json.specs.Read.{max_depth, number_of, of_items, of_json, of_members, read}
use Rattle.serde_json.specs.View.{items_view}
use Rattle.serde_json.specs.declared.value.Value.{Value}

-- ---- each lexeme begins at a byte of its own

lexed : (n : ℕ) (m : Mode) (c : Class) (x : ℕ) (xs : List ℕ) (k : Mode → List Lexeme) → ((next : Mode) → length (k next) ≤ n) → length (lex_byte m c x xs k) ≤ suc n
lexed n between quote x xs k h = omega (arith, h in_string)
lexed n between backslash x xs k h = omega (arith, h in_word)
lexed n between operator x xs k h = omega (arith, h between)
lexed n between space x xs k h = omega (arith, h between)
lexed n between other x xs k h = omega (arith, h in_word)
lexed n in_word quote x xs k h = omega (arith, h in_word)
lexed n in_word backslash x xs k h = omega (arith, h in_word)
lexed n in_word operator x xs k h = omega (arith, h between)
lexed n in_word space x xs k h = omega (arith, h between)
lexed n in_word other x xs k h = omega (arith, h in_word)
lexed n in_string quote x xs k h = omega (arith, h between)
lexed n in_string backslash x xs k h = omega (arith, h in_escape)
lexed n in_string operator x xs k h = omega (arith, h in_string)
lexed n in_string space x xs k h = omega (arith, h in_string)
lexed n in_string other x xs k h = omega (arith, h in_string)
lexed n in_escape c x xs k h = omega (arith, h in_string)

length-lex : (m : Mode) (text : List ℕ) → length (lex m text) ≤ length text
unfolding lex
length-lex m [] = omega arith
length-lex m (x ∷ xs) = lexed (length xs) m (class x) x xs (λ next. lex next xs) (λ next. length-lex next xs)

-- ---- each token but the last is a lexeme

allowed : (n : ℕ) (b : Bool) (t : Token) (k : Place → List Token) (next : Place) → length (k next) ≤ n → length (if_allowed b t k next) ≤ suc n
allowed n true t k next h = omega (arith, h)
allowed n false t k next h = omega arith

placed : (n : ℕ) (p : Place) (t : Token) (b : Bool) (k : Place → List Token) → ((next : Place) → length (k next) ≤ n) → length (place_token p t b k) ≤ suc n
placed n p Token.begin_object b k h = allowed n (may_begin p) Token.begin_object k fresh (h fresh)
placed n p Token.end_object b k h = allowed n (may_close p) Token.end_object k after_value (h after_value)
placed n p Token.begin_array b k h = allowed n (may_begin p) Token.begin_array k fresh (h fresh)
placed n p Token.end_array b k h = allowed n (may_close p) Token.end_array k after_value (h after_value)
placed n p (Token.key s) b k h = omega arith
placed n p (Token.string s) true k h = allowed n (may_begin p) (Token.key s) k after_key (h after_key)
placed n p (Token.string s) false k h = allowed n (may_begin p) (Token.string s) k after_value (h after_value)
placed n p (Token.number s) b k h = allowed n (may_begin p) (Token.number s) k after_value (h after_value)
placed n p (Token.boolean x) b k h = allowed n (may_begin p) (Token.boolean x) k after_value (h after_value)
placed n p Token.null b k h = allowed n (may_begin p) Token.null k after_value (h after_value)
placed n p Token.bad b k h = omega arith

length-punctuate : (p : Place) (ls : List Lexeme) → length (punctuate p ls) ≤ suc (length ls)
unfolding punctuate
length-punctuate fresh [] = omega arith
length-punctuate after_value [] = omega arith
length-punctuate after_comma [] = omega arith
length-punctuate after_key [] = omega arith
length-punctuate fresh (token t ∷ ls) = placed (suc (length ls)) fresh t (begins_colon ls) (λ next. punctuate next ls) (λ next. length-punctuate next ls)
length-punctuate after_value (token t ∷ ls) = placed (suc (length ls)) after_value t (begins_colon ls) (λ next. punctuate next ls) (λ next. length-punctuate next ls)
length-punctuate after_comma (token t ∷ ls) = placed (suc (length ls)) after_comma t (begins_colon ls) (λ next. punctuate next ls) (λ next. length-punctuate next ls)
length-punctuate after_key (token t ∷ ls) = placed (suc (length ls)) after_key t (begins_colon ls) (λ next. punctuate next ls) (λ next. length-punctuate next ls)
length-punctuate fresh (comma ∷ ls) = omega arith
length-punctuate after_value (comma ∷ ls) = omega (arith, length-punctuate after_comma ls)
length-punctuate after_comma (comma ∷ ls) = omega arith
length-punctuate after_key (comma ∷ ls) = omega arith
length-punctuate fresh (colon ∷ ls) = omega arith
length-punctuate after_value (colon ∷ ls) = omega arith
length-punctuate after_comma (colon ∷ ls) = omega arith
length-punctuate after_key (colon ∷ ls) = omega (arith, length-punctuate fresh ls)

length-tokens : (text : List ℕ) → length (tokens text) ≤ suc (length text)
length-tokens text = omega (arith, length-punctuate fresh (lex between text), length-lex between text)

-- ---- each item takes a turn, and there are as many turns as tokens after the bracket

json_len : json.Items → ℕ
json_len json.no_items = 0
json_len (json.item j js) = suc (json_len js)

-- what is a list has fewer items than this
abbrev Below : ℕ → json.Json → Type 0
Below n json.null = ⊤
Below n (json.boolean b) = ⊤
Below n (json.number s) = ⊤
Below n (json.string s) = ⊤
Below n (json.array js) = json_len js < n
Below n (json.object ms) = ⊤

one_item : (n : ℕ) (j : json.Json) (o : Option (json.Items × List Token)) → IfSome o (λ q. json_len q.0 ≤ n) → IfSome (parse_map (json.item j) o) (λ q. json_len q.0 ≤ suc n)
unfolding json_len
one_item n j None h = tt
one_item n j (Some q) h = omega (arith, h)

turn : (n : ℕ) (more : Parse json.Items) → ((ts : List Token) → IfSome (more ts) (λ q. json_len q.0 ≤ n)) → (o : Option (json.Json × List Token)) → IfSome (option_and_then (λ p. parse_map (json.item p.0) (more p.1)) o) (λ q. json_len q.0 ≤ suc n)
turn n more h None = tt
turn n more h (Some p) = one_item n p.0 (more p.1) (h p.1)

step : (n : ℕ) (value : Parse json.Json) (more : Parse json.Items) → ((ts : List Token) → IfSome (more ts) (λ q. json_len q.0 ≤ n)) → (ts : List Token) (o : Option (List Token)) → IfSome (items_step value more ts o) (λ q. json_len q.0 ≤ suc n)
unfolding json_len
step n value more h ts (Some rest) = omega arith
step n value more h ts None = turn n more h (value ts)

few_turns : (value : Parse json.Json) (n : ℕ) (ts : List Token) → IfSome (json.items value n ts) (λ q. json_len q.0 ≤ n)
unfolding json.items
few_turns value zero ts = tt
few_turns value (suc n) ts = step n value (json.items value n) (few_turns value n) ts (after_end_array ts)

in_array : (n : ℕ) (o : Option (json.Items × List Token)) → IfSome o (λ q. json_len q.0 ≤ n) → IfSome (parse_map json.array o) (λ p. Below (suc n) p.0)
in_array n None h = tt
in_array n (Some q) h = omega (arith, h)

in_object : (n : ℕ) (o : Option (json.Members × List Token)) → IfSome (parse_map json.object o) (λ p. Below n p.0)
in_object n None = tt
in_object n (Some q) = tt

first_value : (items : Parse json.Items) (members : Parse json.Members) → ((ts : List Token) → IfSome (items ts) (λ q. json_len q.0 ≤ length ts)) → (ts : List Token) → IfSome (json.value_with items members ts) (λ p. Below (length ts) p.0)
first_value items members h [] = tt
first_value items members h (Token.begin_object ∷ ts) = in_object (suc (length ts)) (members ts)
first_value items members h (Token.end_object ∷ ts) = tt
first_value items members h (Token.begin_array ∷ ts) = in_array (length ts) (items ts) (h ts)
first_value items members h (Token.end_array ∷ ts) = tt
first_value items members h (Token.key s ∷ ts) = tt
first_value items members h (Token.string s ∷ ts) = tt
first_value items members h (Token.number s ∷ ts) = tt
first_value items members h (Token.boolean b ∷ ts) = tt
first_value items members h (Token.null ∷ ts) = tt
first_value items members h (Token.bad ∷ ts) = tt

few_tokens : (depth : ℕ) (ts : List Token) → IfSome (json.value depth ts) (λ p. Below (length ts) p.0)
unfolding json.value
few_tokens zero ts = first_value (λ ts. None) (λ ts. None) (λ ts. tt) ts
few_tokens (suc depth) ts = first_value (λ us. json.items (json.value depth) (length us) us) (λ us. json.members (json.value depth) (length us) us) (λ us. few_turns (json.value depth) (length us) us) ts

-- ---- a list keeps its items as it becomes data

alone : (n : ℕ) (j : json.Json) (ts : List Token) → Below n j → IfSome (json.if_last j ts) (Below n)
alone n j [] h = h
alone n j (t ∷ ts) h = tt

document : (n : ℕ) (o : Option (json.Json × List Token)) → IfSome o (λ p. Below n p.0) → IfSome (option_and_then (λ p. json.if_last p.0 p.1) o) (Below n)
document n None h = tt
document n (Some p) h = alone n p.0 p.1 h

item_kept : (n : ℕ) (first : Option Data) (rest : Option Items) → IfSome rest (λ ds. items_len ds ≡ n) → IfSome (option_and_then (λ d. option_map (item d) rest) first) (λ ds. items_len ds ≡ suc n)
item_kept n None rest h = tt
item_kept n (Some d) None h = tt
item_kept n (Some d) (Some ds) h = ap suc h

items_kept : (js : json.Items) → IfSome (of_items js) (λ ds. items_len ds ≡ json_len js)
unfolding json_len
items_kept json.no_items = refl
items_kept (json.item j js) = item_kept (json_len js) (of_json j) (of_items js) (items_kept js)

-- what is a list has fewer items than this
abbrev IsBelow : ℕ → Data → Type 0
IsBelow n null = ⊤
IsBelow n (boolean b) = ⊤
IsBelow n (number x) = ⊤
IsBelow n (string s) = ⊤
IsBelow n (array ds) = items_len ds < n
IsBelow n (object ms) = ⊤

list_kept : (n k : ℕ) (o : Option Items) → k < n → IfSome o (λ ds. items_len ds ≡ k) → IfSome (option_map array o) (IsBelow n)
list_kept n k None l h = tt
list_kept n k (Some ds) l h = omega (arith, l, h)

any_kept : {A : Type 0} (n : ℕ) (make : A → Data) → ((x : A) → IsBelow n (make x)) → (o : Option A) → IfSome (option_map make o) (IsBelow n)
any_kept n make h None = tt
any_kept n make h (Some x) = h x

kept : (n : ℕ) (j : json.Json) → Below n j → IfSome (of_json j) (IsBelow n)
kept n json.null h = tt
kept n (json.boolean b) h = tt
kept n (json.number s) h = any_kept n number (λ x. tt) (number_of s)
kept n (json.string s) h = tt
kept n (json.array js) h = list_kept n (json_len js) (of_items js) h (items_kept js)
kept n (json.object ms) h = any_kept n object (λ x. tt) (of_members ms no_members)

all_kept : (n : ℕ) (o : Option json.Json) → IfSome o (Below n) → IfSome (option_and_then of_json o) (IsBelow n)
all_kept n None h = tt
all_kept n (Some j) h = kept n j h

few_read : (text : List ℕ) → IfSome (read text) (IsBelow (length (tokens text)))
few_read text = all_kept (length (tokens text)) _ (document (length (tokens text)) (json.value max_depth (tokens text)) (few_tokens max_depth (tokens text)))

-- ---- the items of a list that was read

items_len-view : (values : List Value) → items_len (items_view values) ≡ length values
items_len-view [] = refl
items_len-view (v ∷ values) = ap suc (items_len-view values)

in_list : (n : ℕ) (d : Data) (items : Items) → IsBelow n d → as_array d ≡ Some items → items_len items < n
in_list n null items h e = let f : None ≡ Some items = e in absurd (cc)
in_list n (boolean b) items h e = let f : None ≡ Some items = e in absurd (cc)
in_list n (number x) items h e = let f : None ≡ Some items = e in absurd (cc)
in_list n (string s) items h e = let f : None ≡ Some items = e in absurd (cc)
in_list n (array ds) items h e = let f : Some ds ≡ Some items = e in let same : ds ≡ items = cc in subst (λ xs. items_len xs < n) same h
in_list n (object ms) items h e = let f : None ≡ Some items = e in absurd (cc)

-- the values of a list that a text spells are no more than its bytes
pub few_items : (text : List ℕ) (d : Data) (values : List Value) → read text ≡ Some d → as_array d ≡ Some (items_view values) → length values ≤ length text
few_items text d values is list =
    let below : IsBelow (length (tokens text)) d = subst (λ o. IfSome o (IsBelow (length (tokens text)))) is (few_read text) in
    omega (arith, in_list (length (tokens text)) d (items_view values) below list, items_len-view values, length-tokens text)
