-- `loads::write_run` meets its contract: the invariant is that what is left from item i on gives the whole run.
-- Assumes nothing.
use native.Mathlib.Omega.{arith}
use mathlib.Core.Path.{◌≡◌, refl, ap}
use mathlib.Core.List.{List}
use Prim.Native.Nat.{ℕ}
use Rattle.runs.specs.Run.{Many, many}
use Rattle.loads.specs.Loads.{went_of}
use Rattle.loads.proofs.WriteLaws.{write-begins, write-turn, write-stop, write-end}
use Rattle.loads.proofs.write_run.Goals as goal

-- what a run answers and leaves, part by part
ends : {p : List ℕ} {answer count : ℕ} (r : Many (List ℕ)) → many p answer count ≡ r
    → (went_of (many p answer count) ≡ went_of r) × (p ≡ r.left)
ends r e = (ap went_of e, ap (λ (m : Many (List ℕ)). m.left) e)

pub loop-i-init : goal.loop-i-init
loop-i-init c = write-begins _ _ _ refl

pub returns-then-register-ge-WORDS : goal.returns-then-register-ge-WORDS
returns-then-register-ge-WORDS c =
    let e = write-stop _ _ _ _ _ c.loop-i.invariant _ c.loop-i-test.true c.from-register.ensures c.if-register-ge-WORDS.true in
    let r = ends _ e in
    record { went = rw c.number.ensures r.0; pending = r.1 }

pub loop-i-preserved : goal.loop-i-preserved
loop-i-preserved c =
    write-turn _ _ _ _ _ c.loop-i.invariant _ c.loop-i-test.true c.from-register.ensures _ (omega arith)
    c.word.ensures.0

pub returns : goal.returns
returns c =
    let e = write-end _ _ _ _ _ c.loop-i.invariant (omega arith) (omega arith) in
    let r = ends _ e in
    record { went = r.0; pending = r.1 }
