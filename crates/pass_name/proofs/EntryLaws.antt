-- A member that is put into a map joins the entry of its name, or opens one at the end.
use Rattle.std.proofs.Common.{◌≡◌, ◌∙◌, sym, ap, refl, Bool, true, false, cond, Some, None, List, [], ◌∷◌, ◌++◌, map}
use Rattle.std.specs.Prelude.{Vec}
use Rattle.std.specs.Map.{lookup, set_value}
use Rattle.std.specs.Str.{bytes_eq}
use Rattle.indexmap.specs.IndexMap.{insert_entry}
use Rattle.lint_pass.specs.sql_name.declared.name.Name.{Name}
use Rattle.lint_pass.specs.sql_name.Compared.{name_cut, name_eq}
use Rattle.pass_name.specs.Entries.{items_of, entry_seen}
use Rattle.pass_name.specs.Gathered.{put}

module _ {X Z : Type 0} (k : Name) (x : X) where
  pub put-written : (es : List (Name × Vec X Z)) (v w : Vec X Z) → lookup (name_eq k) es ≡ Some v → items_of w ≡ items_of v ++ x ∷ []
      → map entry_seen (set_value (name_eq k) es w) ≡ put bytes_eq (map entry_seen es) (name_cut k) x
  put-written [] v w h e = absurd (none_some v h)
    where
      none_some : (v : Vec X Z) → None ≡ Some v → ⊥
      none_some v h = cc
  put-written (p ∷ es) v w h e = by (put-written es v w) (bytes_eq (name_cut k) (name_cut p.0)) refl
    where
      first : (b : Bool) → b ≡ true → cond b (Some p.1) (lookup (name_eq k) es) ≡ Some v → p.1 ≡ v
      first true t h = cc
      first false t h = cc

      other : (b : Bool) → b ≡ false → cond b (Some p.1) (lookup (name_eq k) es) ≡ Some v → lookup (name_eq k) es ≡ Some v
      other true t h = cc
      other false t h = h

      by : (lookup (name_eq k) es ≡ Some v → items_of w ≡ items_of v ++ x ∷ [] → map entry_seen (set_value (name_eq k) es w) ≡ put bytes_eq (map entry_seen es) (name_cut k) x)
          → (b : Bool) → bytes_eq (name_cut k) (name_cut p.0) ≡ b
          → map entry_seen (cond (bytes_eq (name_cut k) (name_cut p.0)) ((p.0, w) ∷ es) (p ∷ set_value (name_eq k) es w))
          ≡ cond (bytes_eq (name_cut k) (name_cut p.0)) ((name_cut p.0, items_of p.1 ++ x ∷ []) ∷ map entry_seen es) (entry_seen p ∷ put bytes_eq (map entry_seen es) (name_cut k) x)
      by ih true t =
          ap (λ (b : Bool). map entry_seen (cond b ((p.0, w) ∷ es) (p ∷ set_value (name_eq k) es w))) t
          ∙ ap (λ (ys : List X). (name_cut p.0, ys) ∷ map entry_seen es) (e ∙ ap (λ (u : Vec X Z). items_of u ++ x ∷ []) (sym (first (bytes_eq (name_cut k) (name_cut p.0)) t h)))
          ∙ ap (λ (b : Bool). cond b ((name_cut p.0, items_of p.1 ++ x ∷ []) ∷ map entry_seen es) (entry_seen p ∷ put bytes_eq (map entry_seen es) (name_cut k) x)) (sym t)
      by ih false t =
          ap (λ (b : Bool). map entry_seen (cond b ((p.0, w) ∷ es) (p ∷ set_value (name_eq k) es w))) t
          ∙ ap (λ ys. entry_seen p ∷ ys) (ih (other (bytes_eq (name_cut k) (name_cut p.0)) t h) e)
          ∙ ap (λ (b : Bool). cond b ((name_cut p.0, items_of p.1 ++ x ∷ []) ∷ map entry_seen es) (entry_seen p ∷ put bytes_eq (map entry_seen es) (name_cut k) x)) (sym t)

  pub put-opened : (es : List (Name × Vec X Z)) (w : Vec X Z) → lookup (name_eq k) es ≡ None → items_of w ≡ x ∷ []
      → map entry_seen (insert_entry name_eq es k w) ≡ put bytes_eq (map entry_seen es) (name_cut k) x
  put-opened [] w h e = ap (λ (ys : List X). (name_cut k, ys) ∷ []) e
  put-opened (p ∷ es) w h e = by (put-opened es w) (bytes_eq (name_cut k) (name_cut p.0)) refl
    where
      never : (b : Bool) → b ≡ true → cond b (Some p.1) (lookup (name_eq k) es) ≡ None → ⊥
      never true t h = cc
      never false t h = cc

      other : (b : Bool) → b ≡ false → cond b (Some p.1) (lookup (name_eq k) es) ≡ None → lookup (name_eq k) es ≡ None
      other true t h = cc
      other false t h = h

      by : (lookup (name_eq k) es ≡ None → items_of w ≡ x ∷ [] → map entry_seen (insert_entry name_eq es k w) ≡ put bytes_eq (map entry_seen es) (name_cut k) x)
          → (b : Bool) → bytes_eq (name_cut k) (name_cut p.0) ≡ b
          → map entry_seen (cond (bytes_eq (name_cut k) (name_cut p.0)) ((p.0, w) ∷ es) (p ∷ insert_entry name_eq es k w))
          ≡ cond (bytes_eq (name_cut k) (name_cut p.0)) ((name_cut p.0, items_of p.1 ++ x ∷ []) ∷ map entry_seen es) (entry_seen p ∷ put bytes_eq (map entry_seen es) (name_cut k) x)
      by ih true t = absurd (never (bytes_eq (name_cut k) (name_cut p.0)) t h)
      by ih false t =
          ap (λ (b : Bool). map entry_seen (cond b ((p.0, w) ∷ es) (p ∷ insert_entry name_eq es k w))) t
          ∙ ap (λ ys. entry_seen p ∷ ys) (ih (other (bytes_eq (name_cut k) (name_cut p.0)) t h) e)
          ∙ ap (λ (b : Bool). cond b ((name_cut p.0, items_of p.1 ++ x ∷ []) ∷ map entry_seen es) (entry_seen p ∷ put bytes_eq (map entry_seen es) (name_cut k) x)) (sym t)
