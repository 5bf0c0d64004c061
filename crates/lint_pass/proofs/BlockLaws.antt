-- How the blocks that are found go on from statement to statement.
use Rattle.std.proofs.Common.{◌≡◌, refl, sym, ◌∙◌, ap, subst, ℕ, zero, suc, ◌+◌, ◌<◌, Bool, true, false, ◌&&◌, ◌||◌, not, cond, List, [], ◌∷◌, ◌++◌, map, add-one, Option, Some, None, arith}
use Rattle.std.proofs.lemmas.List.{map-append}
use Rattle.std.proofs.lemmas.Grind.{flat_map-append}
use Rattle.std.specs.List.{flat_map}
use Rattle.std.specs.Option.{option_map, option_to_list}
use Rattle.lint_ignore.specs.sql_tree.declared.nodes.Stmt.{Stmt}
use Rattle.lint_ignore.specs.sql_tree.Statement.{Tree}
use Rattle.lint_transaction.specs.Earlier.{any_between, concat_below}
use Rattle.lint_transaction.specs.Transaction.{stmt_at}
use Rattle.lint_transaction.proofs.EarlierLaws.{any_between-next, any_between-suc}
use Rattle.lint_pass.specs.declared.blocks.Block.{Block}
use Rattle.lint_pass.specs.declared.blocks.Opening.{Opening}
use Rattle.lint_pass.specs.Blocks.{begins_at, ends_at, bounds_at, stamps_at, leads_to, block_of, block_to}
use Rattle.lint_pass.specs.BlockWalk.{opening_at, openings, stamped, opening_after, block_from, block_by}
use Rattle.lint_pass.specs.Pieces.{no_piece}

pieces_same : {A : Type 0} (f g : ℕ → List A) (n : ℕ) → ((k : ℕ) → k < n → f k ≡ g k) → concat_below f n ≡ concat_below g n
pieces_same f g zero h = refl
pieces_same f g (suc n) h =
    let front = pieces_same f g n (λ k l. h k (omega arith)) in let last = h n (omega arith) in λ i. front i ++ last i

map-pieces : {A B : Type 0} (h : A → B) (f : ℕ → List A) (n : ℕ) → map h (concat_below f n) ≡ concat_below (λ k. map h (f k)) n
map-pieces h f zero = refl
map-pieces h f (suc n) = map-append h (concat_below f n) (f n) ∙ ap (λ xs. xs ++ map h (f n)) (map-pieces h f n)

flat_map-pieces : {A B : Type 0} (h : A → List B) (f : ℕ → List A) (n : ℕ) → flat_map h (concat_below f n) ≡ concat_below (λ k. flat_map h (f k)) n
flat_map-pieces h f zero = refl
flat_map-pieces h f (suc n) = flat_map-append h (concat_below f n) (f n) ∙ ap (λ xs. xs ++ flat_map h (f n)) (flat_map-pieces h f n)

-- pieces that are all empty under a test
pieces_unless : {A : Type 0} (b : Bool) (f : ℕ → List A) (n : ℕ) → concat_below (λ k. cond b [] (f k)) n ≡ cond b [] (concat_below f n)
pieces_unless true f n = no_piece n
pieces_unless false f n = refl

pieces_where : {A : Type 0} (b : Bool) (f : ℕ → List A) (n : ℕ) → concat_below (λ k. cond b (f k) []) n ≡ cond b (concat_below f n) []
pieces_where true f n = refl
pieces_where false f n = no_piece n

-- a BEGIN before statement i leads to the next one too, unless statement i is a bound
opening_goes_on : (tree : Tree) (i b : ℕ) → b < i → opening_at tree (suc i) b ≡ cond (bounds_at tree i) [] (map (stamped (stamps_at tree i)) (opening_at tree i b))
opening_goes_on tree i b l =
    ap (λ x. cond {A = List Opening} (begins_at tree b && not x) (record { begin = b; is_stamped = any_between (stamps_at tree) b (suc i) } ∷ []) []) (any_between-suc (bounds_at tree) b i l)
    ∙ ap (λ x. cond {A = List Opening} (begins_at tree b && not (any_between (bounds_at tree) b i || bounds_at tree i)) (record { begin = b; is_stamped = x } ∷ []) []) (any_between-suc (stamps_at tree) b i l)
    ∙ by (begins_at tree b) (any_between (bounds_at tree) b i) (bounds_at tree i) (any_between (stamps_at tree) b i) (stamps_at tree i)
  where
    by : (begins bound_before bound stamp_before stamp : Bool) → cond (begins && not (bound_before || bound)) (record { begin = b; is_stamped = stamp_before || stamp } ∷ []) [] ≡ cond bound [] (map (stamped stamp) (cond (begins && not bound_before) (record { begin = b; is_stamped = stamp_before } ∷ []) []))
    by false x true u v = refl
    by false x false u v = refl
    by true true true u v = refl
    by true true false u v = refl
    by true false true u v = refl
    by true false false u v = refl

-- statement i leads to the next one where it is a BEGIN
opening_begins : (tree : Tree) (i : ℕ) → opening_at tree (suc i) i ≡ cond (begins_at tree i) (record { begin = i; is_stamped = false } ∷ []) []
opening_begins tree i =
    ap (λ x. cond {A = List Opening} (begins_at tree i && not x) (record { begin = i; is_stamped = any_between (stamps_at tree) i (suc i) } ∷ []) []) (any_between-next (bounds_at tree) i)
    ∙ ap (λ x. cond {A = List Opening} (begins_at tree i && true) (record { begin = i; is_stamped = x } ∷ []) []) (any_between-next (stamps_at tree) i)
    ∙ by (begins_at tree i)
  where
    by : (b : Bool) → cond {A = List Opening} (b && true) (record { begin = i; is_stamped = false } ∷ []) [] ≡ cond b (record { begin = i; is_stamped = false } ∷ []) []
    by true = refl
    by false = refl

openings-suc : (tree : Tree) (i : ℕ) → openings tree (suc i) ≡ cond (bounds_at tree i) [] (map (stamped (stamps_at tree i)) (openings tree i)) ++ cond (begins_at tree i) (record { begin = i; is_stamped = false } ∷ []) []
openings-suc tree i =
    let h = stamped (stamps_at tree i) in
    let before : concat_below (opening_at tree (suc i)) i ≡ cond (bounds_at tree i) [] (map h (openings tree i)) =
    pieces_same (opening_at tree (suc i)) (λ b. cond (bounds_at tree i) [] (map h (opening_at tree i b))) i (opening_goes_on tree i)
    ∙ pieces_unless (bounds_at tree i) (λ b. map h (opening_at tree i b)) i
    ∙ ap (cond (bounds_at tree i) []) (sym (map-pieces h (opening_at tree i) i))
    in
    λ k. before k ++ opening_begins tree i k

after_by : (i : ℕ) (begin end stamp : Bool) (o : Option Opening) → option_to_list (cond begin (Some (record { begin = i; is_stamped = false })) (cond end None (option_map (stamped stamp) o))) ≡ cond (begin || end) [] (map (stamped stamp) (option_to_list o)) ++ cond begin (record { begin = i; is_stamped = false } ∷ []) []
after_by i true end stamp o = refl
after_by i false true stamp o = refl
after_by i false false stamp None = refl
after_by i false false stamp (Some o) = refl

-- what is known after one more statement
pub opening_next : (tree : Tree) (i : ℕ) (s : Stmt) (old new : Option Opening) → s ≡ stmt_at tree i → new ≡ opening_after tree s i old → option_to_list old ≡ openings tree i → option_to_list new ≡ openings tree (i + 1)
opening_next tree i s old new e n h =
    let now : option_to_list new ≡ openings tree (suc i) =
    ap option_to_list n
    ∙ ap (λ (x : Stmt). option_to_list (opening_after tree x i old)) e
    ∙ after_by i (begins_at tree i) (ends_at tree i) (stamps_at tree i) old
    ∙ ap (λ xs. cond (bounds_at tree i) [] (map (stamped (stamps_at tree i)) xs) ++ cond (begins_at tree i) (record { begin = i; is_stamped = false } ∷ []) []) h
    ∙ sym (openings-suc tree i)
    in
    rw add-one now

-- where nothing stamps
pub not_stamped : (o : Option Opening) → option_map (stamped false) o ≡ o
not_stamped None = refl
not_stamped (Some o) = ap (λ (b : Bool). Some (record o { is_stamped = b })) (or_false o.is_stamped)
  where
    or_false : (b : Bool) → (b || false) ≡ b
    or_false true = refl
    or_false false = refl

block_by_parts : (tree : Tree) (e b : ℕ) → block_of tree e b ≡ cond (ends_at tree e) (flat_map (block_from e) (opening_at tree e b)) []
block_by_parts tree e b = by (ends_at tree e) (leads_to tree b e) (any_between (stamps_at tree) b e)
  where
    by : (end leads stamp : Bool) → cond (end && (leads && stamp)) (record { first = b; last = e } ∷ []) [] ≡ cond end (flat_map (block_from e) (cond leads (record { begin = b; is_stamped = stamp } ∷ []) [])) []
    by true true true = refl
    by true true false = refl
    by true false stamp = refl
    by false leads stamp = refl

block_to-openings : (tree : Tree) (e : ℕ) → block_to tree e ≡ cond (ends_at tree e) (flat_map (block_from e) (openings tree e)) []
block_to-openings tree e =
    pieces_same (block_of tree e) (λ b. cond (ends_at tree e) (flat_map (block_from e) (opening_at tree e b)) []) e (λ b l. block_by_parts tree e b)
    ∙ pieces_where (ends_at tree e) (λ b. flat_map (block_from e) (opening_at tree e b)) e
    ∙ ap (λ xs. cond (ends_at tree e) xs []) (sym (flat_map-pieces (block_from e) (opening_at tree e) e))

-- the blocks that are found up to one more statement
pub found_next : (tree : Tree) (i : ℕ) (s : Stmt) (o : Option Opening) (old new : List Block) → s ≡ stmt_at tree i → new ≡ old ++ block_by s i o → option_to_list o ≡ openings tree i → old ≡ concat_below (block_to tree) i → new ≡ concat_below (block_to tree) (i + 1)
found_next tree i s o old new e n h f =
    let piece : block_by s i o ≡ block_to tree i =
    ap (λ (x : Stmt). block_by x i o) e
    ∙ ap (λ xs. cond (ends_at tree i) (flat_map (block_from i) xs) []) h
    ∙ sym (block_to-openings tree i)
    in
    let now : new ≡ concat_below (block_to tree) (suc i) = n ∙ (λ k. f k ++ piece k) in
    rw add-one now

-- the same, as a loop says it: its cursor's tree, text and number are those of the walk
pub opening_walked : (tree here p : Tree) (i n next : ℕ) (s : Stmt) (old new : Option Opening) → here ≡ tree → p ≡ tree → n ≡ i → next ≡ i + 1 → s ≡ stmt_at here i → new ≡ opening_after p s n old → option_to_list old ≡ openings tree i → option_to_list new ≡ openings tree next
opening_walked tree here p i n next s old new at_tree of_tree number more stmt after h =
    subst (λ (k : ℕ). option_to_list new ≡ openings tree k) (sym more)
    (opening_next tree i s old new (stmt ∙ ap (λ x. stmt_at x i) at_tree) (after ∙ (λ k. opening_after (of_tree k) s (number k) old)) h)

pub found_walked : (tree here : Tree) (i n next : ℕ) (s : Stmt) (o : Option Opening) (old new : List Block) → here ≡ tree → n ≡ i → next ≡ i + 1 → s ≡ stmt_at here i → new ≡ old ++ block_by s n o → option_to_list o ≡ openings tree i → old ≡ concat_below (block_to tree) i → new ≡ concat_below (block_to tree) next
found_walked tree here i n next s o old new at_tree number more stmt pushed h f =
    subst (λ (k : ℕ). new ≡ concat_below (block_to tree) k) (sym more)
    (found_next tree i s o old new (stmt ∙ ap (λ x. stmt_at x i) at_tree) (pushed ∙ (λ k. old ++ block_by s (number k) o)) h f)
