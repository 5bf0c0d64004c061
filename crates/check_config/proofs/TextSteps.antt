-- The texts of a list, one by one.
use Rattle.std.proofs.Common.{◌≡◌, ◌+◌, ◌<◌, ◌≤◌, ap, append_assoc, append-nil, refl, sym, ℕ, List, [], ◌∷◌, ◌++◌, Option, Some, None, drop, get_or, length, option_map}
use Rattle.std.proofs.lemmas.List.{drop_all}
use Rattle.squawk_run.specs.squawk_words.Words.{Text}
use Rattle.toml.specs.Data.{as_str}
use Rattle.toml.specs.View.{items_view, view}
use Rattle.toml.specs.declared.value.Value.{Value}
use Rattle.toml.proofs.Views.{items_view-drop}
use Rattle.check_config.specs.Config.{texts_of}

-- what was read, and what is read of the rest
abbrev pub after : List Text → List Value → Option (List Text)
after done left = option_map (λ rest. done ++ rest) (texts_of (items_view left))

more : (done : List Text) (text : Text) (rest : Option (List Text)) → option_map (λ ts. done ++ ts) (option_map (λ ts. text ∷ ts) rest) ≡ option_map (λ ts. (done ++ text ∷ []) ++ ts) rest
more done text None = refl
more done text (Some ts) = ap Some (sym (append_assoc done (text ∷ []) ts))

pub text_first : (values : List Value) → after [] values ≡ texts_of (items_view values)
text_first values = same (texts_of (items_view values))
  where
    same : (o : Option (List Text)) → option_map (λ rest. [] ++ rest) o ≡ o
    same None = refl
    same (Some ts) = refl

pub text_next : (done : List Text) (values : List Value) (i : ℕ) (d : Value) (text : Text) → i < length values → as_str (view (get_or values i d)) ≡ Some text
    → after done (drop i values) ≡ after (done ++ text ∷ []) (drop (i + 1) values)
text_next done values i d text inside here = rw (items_view-drop values i d inside, here) (more done text (texts_of (items_view (drop (i + 1) values))))

pub text_fails : (done : List Text) (values : List Value) (i : ℕ) (d : Value) → i < length values → as_str (view (get_or values i d)) ≡ None → after done (drop i values) ≡ None
text_fails done values i d inside here = rw (items_view-drop values i d inside, here) refl

pub text_last : (done : List Text) (values : List Value) (i : ℕ) → length values ≤ i → after done (drop i values) ≡ Some done
text_last done values i ended = rw (drop_all i values ended) (ap Some (append-nil done))
