use Rattle.std.proofs.Common.{◌≡◌, ℕ, ◌+◌, ◌≤◌, List, ◌++◌, false, Result, Ok, Err, OnOk, take, length, length-append, length-take, append-nil, ap, ◌∙◌, subst, sym, arith}
use Rattle.std.specs.Result.{is_err}
use Rattle.std.specs.declared.option.Option.{Option}
use Rattle.std.specs.Io.KnownBytes.{Consumes}
use Rattle.std.proofs.KnownBytes.{Consumes-trans}
use Rattle.devices.proofs.whole.read_through.Goals as goal

-- what was read so far, one read and the bytes that it gave
more : {T E : Type 0} (r : Result T E) (a b c : Option (List ℕ)) (xs ys all : List ℕ)
    → OnOk r (all ≡ xs ++ ys) → false ≡ is_err r → Consumes a b xs → Consumes b c ys → Consumes a c all
more (Ok _) a b c xs ys all e ok p q = subst (Consumes a c) (sym e) (Consumes-trans a b c xs ys p q)
more (Err _) a b c xs ys all e ok p q = cc

-- its length
longer : {T E : Type 0} (r : Result T E) (xs ys all : List ℕ) (n : ℕ)
    → OnOk r (all ≡ xs ++ take n ys) → false ≡ is_err r → n ≤ length ys → length all ≡ length xs + n
longer (Ok _) xs ys all n e ok h = omega (arith, ap length e, length-append xs (take n ys), length-take n ys)
longer (Err _) xs ys all n e ok h = cc

-- a read that gave nothing
none : (a b c : Option (List ℕ)) (xs ys : List ℕ) (n : ℕ) → n ≡ 0 → Consumes a b xs → Consumes b c (take n ys) → Consumes a c xs
none a b c xs ys n e p q =
    subst (Consumes a c) (ap (λ k. xs ++ take k ys) e ∙ append-nil xs) (Consumes-trans a b c xs (take n ys) p q)

pub returns-in-Err-clause-ended : goal.returns-in-Err-clause-ended
returns-in-Err-clause-ended g c = tt

pub returns-in-Ok-eq0-clause-taken : goal.returns-in-Ok-eq0-clause-taken
returns-in-Ok-eq0-clause-taken g c =
    none _ _ _ _ _ _ c.in-Ok-eq0.field-0-test c.reading.invariant.taken c.in-Ok-eq0.ensures.bytes.0

pub returns-in-Ok-eq0-clause-ended : goal.returns-in-Ok-eq0-clause-ended
returns-in-Ok-eq0-clause-ended g c = c.in-Ok-eq0.ensures.bytes.1 c.in-Ok-eq0.field-0-test (omega arith)

pub append-requires : goal.append-requires
append-requires g c = tt

pub returns-then-len-ge4294967296-clause-stopped : goal.returns-then-len-ge4294967296-clause-stopped
returns-then-len-ge4294967296-clause-stopped g c = record {
  bytes = c.append.new.input.items;
  taken = more _ _ _ _ _ _ _ c.append.ensures c.if-is_err.ensures.value c.reading.invariant.taken c.in-Ok.ensures.bytes.0;
  many = omega arith;
}

pub reading-preserved : goal.reading-preserved
reading-preserved g c =
    let n = longer _ _ _ _ _ c.append.ensures c.if-is_err.ensures.value c.in-Ok.ensures.bound.0 in
    record {
      taken = more _ _ _ _ _ _ _ c.append.ensures c.if-is_err.ensures.value c.reading.invariant.taken c.in-Ok.ensures.bytes.0;
      turns = omega (arith, n);
      short = omega arith;
      later = omega arith;
    }
