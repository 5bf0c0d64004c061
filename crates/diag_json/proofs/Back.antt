-- What is read of a list of diagnostics that was written.
use Rattle.std.proofs.Common.{◌≡◌, ◌≢◌, ◌∙◌, ◌+◌, ◌<◌, ◌≤◌, ℕ, List, [], ◌∷◌, ◌++◌, length, map, get_or, drop, Option, None, Some, Result, Ok, Err, IfOk, IfErr, sym, ap, append-nil, append_assoc}
use Rattle.std.proofs.lemmas.List.{drop_all, drop_more, length-append, map-append}
use Rattle.std.specs.List.{AllByRecursion}
use Rattle.serde_json.specs.Data.{Data, Items, array}
use Rattle.serde_json.specs.Find.{as_array}
use Rattle.serde_json.specs.View.{items_of, view}
use Rattle.serde_json.specs.declared.value.Value.{Value}
use Rattle.diag_json.proofs.DiagnosticLaws.{diagnostic_read, each_read}
use Rattle.diag_json.specs.Answers.{AreFit, IsCause, IsDiagnostic, IsFirstUnfit, IsItemCause, IsRead, OkOrNoMemory}
use Rattle.diag_json.specs.declared.read.DiagError.{DiagError}
use Rattle.diag_json.specs.declared.read.DiagError.TheVariants.{NotJson, NotList, Shape, NoMemory}
use Rattle.diag_json.specs.declared.diagnostic.Diagnostic.{Diagnostic}
use Rattle.diag_json.specs.Json.{diagnostic_json, json}
use Rattle.diag_json.specs.Reading.{read_diagnostic, read_each}

-- the list as it is read: diagnostics, and values that are still to be read
abbrev pub AreReadTo : List Value → List Diagnostic → ℕ → Type 0
AreReadTo values done i = (map view values ≡ map diagnostic_json done ++ map view (drop i values)) × AllByRecursion IsDiagnostic done × (length done ≡ i)

all_push : (xs : List Diagnostic) (x : Diagnostic) → AllByRecursion IsDiagnostic xs → IsDiagnostic x → AllByRecursion IsDiagnostic (xs ++ x ∷ [])
all_push [] x h is = (is, tt)
all_push (y ∷ ys) x h is = (h.0, all_push ys x h.1 is)

-- one more is read
pub read_more : (values : List Value) (done pushed : List Diagnostic) (i : ℕ) (v : Value) (x : Diagnostic) → AreReadTo values done i → i < length values → view (get_or values i v) ≡ diagnostic_json x → IsDiagnostic x → pushed ≡ done ++ x ∷ [] → AreReadTo values pushed (i + 1)
read_more values done pushed i v x h l is fits more =
    rw more (
      (h.0 ∙ ap (λ vs. map diagnostic_json done ++ map view vs) (drop_more values i v l)
          ∙ ap (λ d. map diagnostic_json done ++ d ∷ map view (drop (i + 1) values)) is
          ∙ sym (append_assoc (map diagnostic_json done) (diagnostic_json x ∷ []) (map view (drop (i + 1) values)))
          ∙ ap (λ ds. ds ++ map view (drop (i + 1) values)) (sym (map-append diagnostic_json done (x ∷ [])))),
      all_push done x h.1 fits,
      length-append done (x ∷ []) ∙ ap (λ n. n + 1) h.2,
    )

-- all are read
pub all_read : (values : List Value) (done : List Diagnostic) (i : ℕ) → AreReadTo values done i → length values ≤ i → AreFit (items_of (map view values)) done
all_read values done i h l =
    record { is = ap items_of (h.0 ∙ ap (λ vs. map diagnostic_json done ++ map view vs) (drop_all i values l) ∙ append-nil (map diagnostic_json done)); are = h.1 }

-- one is not
pub not_read : (values : List Value) (done : List Diagnostic) (i : ℕ) (v : Value) → AreReadTo values done i → i < length values → ((d : Diagnostic) → IsDiagnostic d → diagnostic_json d ≢ view (get_or values i v)) → IsFirstUnfit (items_of (map view values)) i
not_read values done i v h l unfit =
    record {
      before = done;
      are = h.1;
      number = h.2;
      item = view (get_or values i v);
      unfit = unfit;
      rest = map view (drop (i + 1) values);
      is = ap items_of (h.0 ∙ ap (λ vs. map diagnostic_json done ++ map view vs) (drop_more values i v l));
    }

-- the JSON of diagnostics is that of no others
pub same_diagnostics : (a b : List Diagnostic) → AllByRecursion IsDiagnostic a → AllByRecursion IsDiagnostic b → items_of (map diagnostic_json a) ≡ items_of (map diagnostic_json b) → a ≡ b
same_diagnostics a b fa fb e =
    let one = each_read diagnostic_json read_diagnostic IsDiagnostic diagnostic_read a fa in
    let two = each_read diagnostic_json read_diagnostic IsDiagnostic diagnostic_read b fb in
    let same : Some a ≡ Some b = sym one ∙ ap (read_each read_diagnostic) e ∙ two in
    cc

-- and has no item that is not
pub none_unfit : (before d : List Diagnostic) (x : Data) (rest : List Data) → AllByRecursion IsDiagnostic d → ((y : Diagnostic) → IsDiagnostic y → diagnostic_json y ≢ x) → items_of (map diagnostic_json d) ≡ items_of (map diagnostic_json before ++ x ∷ rest) → ⊥
none_unfit [] [] x rest h unfit e = cc
none_unfit [] (y ∷ ys) x rest h unfit e = let same : diagnostic_json y ≡ x = cc in unfit y h.0 same
none_unfit (b ∷ before) [] x rest h unfit e = cc
none_unfit (b ∷ before) (y ∷ ys) x rest h unfit e = let same : items_of (map diagnostic_json ys) ≡ items_of (map diagnostic_json before ++ x ∷ rest) = cc in none_unfit before ys x rest h.1 unfit same

pub err_weaker : {A E : Type 0} (r : Result A E) (P Q : E → Type 0) → ((e : E) → P e → Q e) → IfErr r P → IfErr r Q
err_weaker (Ok x) P Q f h = tt
err_weaker (Err e) P Q f h = f e h

-- the value of a text and its items
pub fit_is_read : (v : Option Data) (items : Items) (ds : List Diagnostic) → v ≡ Some (array items) → AreFit items ds → IsRead v ds
fit_is_read v items ds is fit = record { is = is ∙ ap (λ xs. Some (array xs)) fit.is; are = fit.are }

pub item_cause : (v : Option Data) (items : Items) (e : DiagError) → v ≡ Some (array items) → IsItemCause items e → IsCause v e
item_cause v items NotJson is h = absurd h
item_cause v items NotList is h = absurd h
item_cause v items (Shape n) is h = (items, is, h)
item_cause v items NoMemory is h = tt

-- what was written is read back
pub back : {X : Type 0} (items : X → List Diagnostic) (v : Option Data) (r : Result X DiagError) (d : List Diagnostic) → AllByRecursion IsDiagnostic d → v ≡ Some (json d) → IfOk r (λ x. IsRead v (items x)) → IfErr r (IsCause v) → OkOrNoMemory r (λ x. items x ≡ d)
back items v (Ok x) d are same ok cause =
    let e : Some (json (items x)) ≡ Some (json d) = sym ok.is ∙ same in
    let f : items_of (map diagnostic_json (items x)) ≡ items_of (map diagnostic_json d) = cc in
    same_diagnostics (items x) d ok.are are f
back items v (Err NotJson) d are same ok cause = let e : None ≡ Some (json d) = sym cause ∙ same in absurd (cc)
back items v (Err NotList) d are same ok cause =
    let e : Some cause.0 ≡ Some (json d) = sym cause.1 ∙ same in
    let f : cause.0 ≡ json d = cc in
    let g : None ≡ Some (items_of (map diagnostic_json d)) = sym cause.2 ∙ ap as_array f in
    absurd (cc)
back items v (Err (Shape n)) d are same ok cause =
    let e : Some (json d) ≡ Some (array cause.0) = sym same ∙ cause.1 in
    let f : items_of (map diagnostic_json d) ≡ cause.0 = cc in
    none_unfit cause.2.before d cause.2.item cause.2.rest are cause.2.unfit (f ∙ cause.2.is)
back items v (Err NoMemory) d are same ok cause = tt
