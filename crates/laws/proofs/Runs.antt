-- What a caller of runs may rely on: request K1. A run of one item, a run in two parts, its count, its end, and
-- the states that it makes. Assumes nothing.
use mathlib.Core.Path.{◌≡◌, refl, sym, ap, ap₂, ◌∙◌}
use mathlib.Core.List.{List, [], ◌∷◌, ◌++◌, append-nil}
use Prim.Native.Nat.{ℕ, ◌+◌, ◌/◌, ◌%◌, ◌<◌}
use native.Mathlib.Omega.{arith}
use lib.ListN.{length, get_or}
use Rattle.lists.specs.Little.{little_at}
use Rattle.answers.specs.Answers.{done, tables_length}
use Rattle.tables.specs.Geometry.{tables_len}
use Rattle.runs.specs.Run.{Many, StopsAt}
use Rattle.runs.specs.Writes.{writes_in}
use Rattle.runs.proofs.RunLaws.{each-any, run_none, run-stops, run-one, run-append, run-all, run-keeps, run_at}
use Rattle.runs.proofs.WriteLaws.{length-writes, writes_short, writes_one, writes-append}
use Rattle.display.specs.declared.Display.{Display}
use Rattle.display.specs.declared.Told.{Told}
use Rattle.display.specs.declared.Ran.{Ran}
use Rattle.display.specs.State.{bits_in, told, write_of}
use Rattle.display.specs.Put.{put_of, put_tables}
use Rattle.display.specs.Runs.{ran, told_by, Lent, lent, put_one, puts, put_run_of, put_run_tables, write_one, writes}
use Rattle.display.specs.Runs.{write_run_of}
use Rattle.display.specs.Reached.{Reached, by-write, by-put}
use Rattle.display.proofs.PutLaws.{answer-length, put-length}
use Rattle.display.proofs.RunLaws.{put-is-run}

-- a run with n more items done in front of it
abbrev pub further : ℕ → Ran → Ran
further n r = ran r.state r.answer (n + r.done)

-- ---- puts

module _ (d : Display) (tables : List ℕ) where
  -- an empty run changes nothing, whatever the tables
  pub put-run-empty : (put_run_of d tables [] ≡ ran d done 0) × (put_run_tables d tables [] ≡ tables)
  unfolding put_run_of put_run_tables puts
  put-run-empty =
      let e = run_none put_one (lent d tables) in
      (ap (λ (m : Many Lent). ran m.left.state m.answer m.count) e, ap (λ (m : Many Lent). m.left.tables) e)

  -- a run of one byte is the single call
  pub put-run-one : (byte : ℕ) → (told_by (put_run_of d tables (byte ∷ [])) ≡ put_of d tables)
      × (put_run_tables d tables (byte ∷ []) ≡ put_tables d tables byte)
  put-run-one byte = put-is-run d tables _ byte _ refl refl

  -- any other with wrong tables is refused with 6 at once
  pub put-run-length : (byte : ℕ) (run : List ℕ) → (length tables ≡ tables_len (bits_in d) → ⊥)
      → (put_run_of d tables (byte ∷ run) ≡ ran d tables_length 0) × (put_run_tables d tables (byte ∷ run) ≡ tables)
  unfolding put_run_of put_run_tables puts
  put-run-length byte run ne =
      let p = put-length d tables byte (answer-length d tables ne) in
      let e = run-stops put_one (lent d tables) byte run
      (λ z. let y : tables_length ≡ done = ap (λ (t : Told). t.answer) p.0 ∙ z in omega arith) in (
        ap (λ (m : Many Lent). ran m.left.state m.answer m.count) e
            ∙ ap (λ (t : Told). ran t.state t.answer 0) (sym p.0),
        ap (λ (m : Many Lent). m.left.tables) e ∙ sym p.1,
      )

  module _ (run : List ℕ) where
    -- done whole, it counts all of its bytes
    pub put-run-all : (put_run_of d tables run).answer ≡ done → (put_run_of d tables run).done ≡ length run
    unfolding put_run_of puts
    put-run-all e = run-all put_one run (lent d tables) e

    -- else the count is the place of the first byte that is refused
    pub put-run-at : ((put_run_of d tables run).answer ≡ done → ⊥)
        → StopsAt put_one (lent d tables) run (put_run_of d tables run).done
    unfolding put_run_of puts
    put-run-at ne = run_at put_one run (lent d tables) ne

    -- it makes no state that single calls do not
    pub put-run-reached : Reached d → Reached (put_run_of d tables run).state
    unfolding put_run_of puts
    put-run-reached r =
        run-keeps put_one (λ l. Reached l.state) (λ x. Unit {0}) (λ l x q p. by-put l.tables p) run (lent d tables)
        (each-any run) r

  -- a run of a and then b is one run, where a was done whole
  pub put-run-append : (a b : List ℕ) → (put_run_of d tables a).answer ≡ done
      → (put_run_of d tables (a ++ b)
      ≡ further (length a) (put_run_of (put_run_of d tables a).state (put_run_tables d tables a) b))
      × (put_run_tables d tables (a ++ b) ≡ put_run_tables (put_run_of d tables a).state (put_run_tables d tables a) b)
  unfolding put_run_of put_run_tables puts
  put-run-append a b e =
      let q = run-append put_one a b (lent d tables) e in
      (ap (λ (m : Many Lent). ran m.left.state m.answer m.count) q, ap (λ (m : Many Lent). m.left.tables) q)

-- ---- writes

module _ (d : Display) where
  -- fewer than five bytes are an empty run
  pub write-run-short : (run : List ℕ) → length run < 5 → write_run_of d run ≡ ran d done 0
  unfolding write_run_of writes
  write-run-short run h =
      rw (writes_short run h) (ap (λ (m : Many Display). ran m.left m.answer m.count) (run_none write_one d))

  -- a run of one item is the single call
  pub write-run-one : (run : List ℕ) → length run ≡ 5
      → told_by (write_run_of d run) ≡ write_of d (get_or run 0 0) (little_at run 1)
  unfolding write_run_of writes
  write-run-one run h =
      let o = run-one write_one d (record { register = get_or run 0 0; value = little_at run 1 }) in
      rw (writes_one run h) (ap₂ told o.0 o.1)

  module _ (run : List ℕ) where
    -- done whole, it counts all of its items
    pub write-run-all : (write_run_of d run).answer ≡ done → (write_run_of d run).done ≡ length run / 5
    unfolding write_run_of writes
    write-run-all e = run-all write_one (writes_in run) d e ∙ length-writes run

    -- else the count is the place of the first that is refused
    pub write-run-at : ((write_run_of d run).answer ≡ done → ⊥)
        → StopsAt write_one d (writes_in run) (write_run_of d run).done
    unfolding write_run_of writes
    write-run-at ne = run_at write_one (writes_in run) d ne

    -- it makes no state that single calls do not
    pub write-run-reached : Reached d → Reached (write_run_of d run).state
    unfolding write_run_of writes
    write-run-reached r =
        run-keeps write_one Reached (λ w. Unit {0}) (λ e w q p. by-write w.register w.value p) (writes_in run) d
        (each-any (writes_in run)) r

  -- a run of a and then b is one run, where a is of whole items and was done whole
  pub write-run-append : (a b : List ℕ) → length a % 5 ≡ 0 → (write_run_of d a).answer ≡ done
      → write_run_of d (a ++ b) ≡ further (length a / 5) (write_run_of (write_run_of d a).state b)
  unfolding write_run_of writes
  write-run-append a b h e =
      let q = run-append write_one (writes_in a) (writes_in b) d e in
      rw (writes-append a b h, ← length-writes a)
      (ap (λ (m : Many Display). ran m.left m.answer m.count) q)

  -- bytes left over behind whole items are not looked at
  pub write-run-left-over : (a b : List ℕ) → length a % 5 ≡ 0 → length b < 5 → write_run_of d (a ++ b) ≡ write_run_of d a
  unfolding write_run_of writes
  write-run-left-over a b h l =
      rw (writes-append a b h, writes_short b l, append-nil (writes_in a))
