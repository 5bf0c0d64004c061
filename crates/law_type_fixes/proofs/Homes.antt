-- Where a type of a list is, and the list in which another is in its place.
use Rattle.std.proofs.Common.{◌≡◌, ℕ, List, [], ◌∷◌, ◌++◌, map, append_assoc, refl, Option, Some, None, sym, ap, ◌∙◌}
use Rattle.std.proofs.lemmas.List.{map-append}
use Rattle.std.specs.List.{flat_map}
use Rattle.std.specs.Option.{option_to_list}
use Rattle.pass_data_type.specs.sql_tree.declared.nodes.ColType.{ColType}
use Rattle.law_edit_types.specs.law_renumber.Moved.{type_moved}

types_first : {x y : ColType} {xs ys : List ColType} → x ∷ xs ≡ y ∷ ys → x ≡ y
types_first e = cc

types_rest : {x y : ColType} {xs ys : List ColType} → x ∷ xs ≡ y ∷ ys → xs ≡ ys
types_rest e = cc

-- ---- in one of two lists

pub data Half (xs ys earlier : List ColType) (ty : ColType) (later : List ColType) : Type 0 where
  left : (more : List ColType) → xs ≡ earlier ++ ty ∷ more → later ≡ more ++ ys → Half xs ys earlier ty later
  right : (more : List ColType) → earlier ≡ xs ++ more → ys ≡ more ++ ty ∷ later → Half xs ys earlier ty later

pub half : (xs ys earlier : List ColType) (ty : ColType) (later : List ColType) → xs ++ ys ≡ earlier ++ ty ∷ later → Half xs ys earlier ty later
half [] ys earlier ty later e = right earlier refl e
half (x ∷ xs) ys [] ty later e = left xs (let p = types_first e in λ i. p i ∷ xs) (sym (types_rest e))
half (x ∷ xs) ys (y ∷ earlier) ty later e = by (half xs ys earlier ty later (types_rest e))
  where
    by : Half xs ys earlier ty later → Half (x ∷ xs) ys (y ∷ earlier) ty later
    by (left more p q) = left more (let first = types_first e in λ i. first i ∷ p i) q
    by (right more p q) = right more (let first = types_first e in λ i. sym first i ∷ p i) q

-- ---- in one of the nodes of a list

pub record Home {X : Type 0} (types : X → List ColType) (nodes : List X) (earlier : List ColType) (ty : ColType) (later : List ColType) : Type 0 where
  pub front : List X
  pub node : X
  pub back : List X
  pub pre : List ColType
  pub post : List ColType
  pub parts : nodes ≡ front ++ node ∷ back
  pub here : types node ≡ pre ++ ty ∷ post
  pub earlier_is : earlier ≡ flat_map types front ++ pre
  pub later_is : later ≡ post ++ flat_map types back

none_there : (earlier : List ColType) (ty : ColType) (later : List ColType) → [] ≡ earlier ++ ty ∷ later → ⊥
none_there [] ty later e = cc
none_there (x ∷ earlier) ty later e = cc

pub home : {X : Type 0} (types : X → List ColType) (nodes : List X) (earlier : List ColType) (ty : ColType) (later : List ColType) → flat_map types nodes ≡ earlier ++ ty ∷ later →
    Home types nodes earlier ty later
home types [] earlier ty later e = absurd (none_there earlier ty later e)
home types (x ∷ xs) earlier ty later e = by (half (types x) (flat_map types xs) earlier ty later e) (λ more q. home types xs more ty later q)
  where
    rest : (more : List ColType) → earlier ≡ types x ++ more → Home types xs more ty later → Home types (x ∷ xs) earlier ty later
    rest more p h = record {
      front = x ∷ h.front;
      node = h.node;
      back = h.back;
      pre = h.pre;
      post = h.post;
      parts = ap (λ (l : List _). x ∷ l) h.parts;
      here = h.here;
      earlier_is = p ∙ ap (λ (l : List ColType). types x ++ l) h.earlier_is ∙ sym (append_assoc (types x) (flat_map types h.front) h.pre);
      later_is = h.later_is;
    }

    by : Half (types x) (flat_map types xs) earlier ty later → ((more : List ColType) → flat_map types xs ≡ more ++ ty ∷ later → Home types xs more ty later) → Home types (x ∷ xs) earlier ty later
    by (left more p q) others = record { front = []; node = x; back = xs; pre = earlier; post = more; parts = refl; here = p; earlier_is = refl; later_is = q }
    by (right more p q) others = rest more p (others more q)

-- ---- the list with others in the place of the type

regroup : (a b c d e : List ColType) → a ++ ((b ++ (c ++ d)) ++ e) ≡ (a ++ b) ++ (c ++ (d ++ e))
regroup a b c d e = simp append_assoc

pub flat_append : {X Y : Type 0} (g : X → List Y) (xs ys : List X) → flat_map g (xs ++ ys) ≡ flat_map g xs ++ flat_map g ys
flat_append g [] ys = refl
flat_append g (x ∷ xs) ys = ap (λ (l : List _). g x ++ l) (flat_append g xs ys) ∙ sym (append_assoc (g x) (flat_map g xs) (flat_map g ys))

flat_moved : {X : Type 0} (f : ℕ → ℕ) (types : X → List ColType) (moved : X → X) → ((x : X) → types (moved x) ≡ map (type_moved f) (types x)) → (xs : List X) →
    flat_map types (map moved xs) ≡ map (type_moved f) (flat_map types xs)
flat_moved f types moved one [] = refl
flat_moved f types moved one (x ∷ xs) =
    (let p = one x in let q = flat_moved f types moved one xs in λ i. p i ++ q i) ∙ sym (map-append (type_moved f) (types x) (flat_map types xs))

pub home_moved : {X : Type 0} (f : ℕ → ℕ) (types : X → List ColType) (moved : X → X) → ((x : X) → types (moved x) ≡ map (type_moved f) (types x)) →
    (nodes : List X) (earlier : List ColType) (ty : ColType) (later : List ColType) (h : Home types nodes earlier ty later) (now : X) (new : List ColType) →
    types now ≡ map (type_moved f) h.pre ++ (new ++ map (type_moved f) h.post) →
    flat_map types (map moved h.front ++ now ∷ map moved h.back) ≡ map (type_moved f) earlier ++ (new ++ map (type_moved f) later)
home_moved f types moved one nodes earlier ty later h now new is =
    flat_append types (map moved h.front) (now ∷ map moved h.back)
    ∙ (let p = flat_moved f types moved one h.front in let q = flat_moved f types moved one h.back in λ i. p i ++ (is i ++ q i))
    ∙ regroup (map (type_moved f) (flat_map types h.front)) (map (type_moved f) h.pre) new (map (type_moved f) h.post) (map (type_moved f) (flat_map types h.back))
    ∙ (let p = sym (map-append (type_moved f) (flat_map types h.front) h.pre) in let q = sym (map-append (type_moved f) h.post (flat_map types h.back)) in λ i. p i ++ (new ++ q i))
    ∙ (let p = sym h.earlier_is in let q = sym h.later_is in λ i. map (type_moved f) (p i) ++ (new ++ map (type_moved f) (q i)))

-- ---- the only one

pub record Only (o : Option ColType) (pre : List ColType) (ty : ColType) (post : List ColType) : Type 0 where
  pub is : o ≡ Some ty
  pub pre_is : pre ≡ []
  pub post_is : post ≡ []

pub only : (o : Option ColType) (pre : List ColType) (ty : ColType) (post : List ColType) → option_to_list o ≡ pre ++ ty ∷ post → Only o pre ty post
only None pre ty post e = absurd (none_there pre ty post e)
only (Some x) [] ty post e = record { is = ap (λ (y : ColType). Some y) (types_first e); pre_is = refl; post_is = sym (types_rest e) }
only (Some x) (y ∷ pre) ty post e = absurd (none_there pre ty post (types_rest e))
