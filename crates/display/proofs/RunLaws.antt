-- A run of puts comes to the part of it that fits, and a run of writes to the pending words alone. Assumes nothing.
use Rattle.std.proofs.Common.{◌≡◌, ℕ, ◌+◌, ◌*◌, ◌^◌, ◌<◌, ◌≤◌, Bool, true, false, eqb, ltb, List, [], ◌∷◌, length, set, sym, refl, ap, ◌∙◌, ap₂, ⊎_elim, arith, length-set, le-ltb, lt-ltb, ne_eqb}
use lib.Bits.{bit_or}
use Rattle.lists.specs.Choice.{pick, choose, or_else}
use Rattle.lists.proofs.Choice.{split, same_or}
use Rattle.answers.specs.Answers.{done, no_register, not_selected, bank_active, bank_full, tables_length}
use Rattle.tables.specs.Geometry.{tables_len}
use Rattle.tables.specs.Selection.{controller_of, end_of, first_byte_of, named_by}
use Rattle.runs.specs.Run.{One, one, Many, many, after, run_of}
use Rattle.runs.specs.Writes.{Write, writes_in}
use Rattle.runs.proofs.RunLaws.{run_none, run-goes, run-stops, run-one, run-map}
use Rattle.loads.specs.declared.Loaded.{Loaded}
use Rattle.loads.specs.declared.Went.{Went}
use Rattle.loads.specs.Loads.{refusal_of, load_of, load_tables, write_word, writes_of, went_of}
use Rattle.loads.proofs.LoadLaws.{stored-none, load-empty, load-refused, load_full, load_step, tables_step}
use Rattle.display.specs.declared.Display.{Display}
use Rattle.display.specs.declared.Told.{Told}
use Rattle.display.specs.declared.Ran.{Ran}
use Rattle.display.specs.State.{bits_in, told, with_errors, with_place, with_pending}
use Rattle.display.specs.Put.{put_answer, put_state, put_of, put_tables}
use Rattle.display.specs.Runs.{ran, told_by, Lent, lent, put_one, puts, put_run_of, put_run_tables, write_one, writes}
use Rattle.display.specs.Runs.{write_run_of}
use Rattle.display.proofs.PutLaws.{put-done, put_full}

-- ---- what is refused whatever the place, and a put

-- of the three tests that do not ask the place
abbrev three : Bool → Bool → Bool → ℕ
three a b c = or_else (pick a done tables_length) (or_else (pick b done not_selected) (pick c bank_active done))

three-last : (a b c : Bool) (n : ℕ)
    → or_else (pick a done tables_length) (or_else (pick b done not_selected) (or_else (pick c bank_active done) n))
    ≡ or_else (three a b c) n
three-last true true true n = refl
three-last true true false n = refl
three-last true false c n = refl
three-last false b c n = refl

three-other : (a b c : Bool) → three a b c ≡ bank_full → ⊥
three-other true true true e = omega arith
three-other true true false e = omega arith
three-other true false c e = omega arith
three-other false b c e = omega arith

module _ (d : Display) (tables : List ℕ) where
  abbrev refusal : ℕ
  refusal = refusal_of (bits_in d) d.active d.selection.made d.selection.number (length tables)

  answer-is : put_answer d tables
      ≡ or_else refusal (pick (ltb d.selection.place (end_of (bits_in d) d.selection.number)) done bank_full)
  unfolding put_answer refusal_of
  answer-is =
      three-last (eqb (length tables) (tables_len (bits_in d))) d.selection.made (named_by d.active d.selection.number) _

  refusal-other : refusal ≡ bank_full → ⊥
  unfolding refusal_of
  refusal-other =
      three-other (eqb (length tables) (tables_len (bits_in d))) d.selection.made (named_by d.active d.selection.number)

  -- refused whatever the place, a put changes nothing
  one-refused : (byte : ℕ) → (refusal ≡ done → ⊥) → put_one (lent d tables) byte ≡ one (lent d tables) refusal
  unfolding put_of put_state put_tables
  one-refused byte ne =
      let e : put_answer d tables ≡ refusal = answer-is ∙ rw (ne_eqb refusal 0 ne) in
      rw (e, ne_eqb _ _ ne, ne_eqb _ _ refusal-other)

  module _ (byte : ℕ) (passes : refusal ≡ done) where
    one-full : end_of (bits_in d) d.selection.number ≤ d.selection.place → put_one (lent d tables) byte
        ≡ one (lent (with_errors d (bit_or d.errors (2 ^ (4 * controller_of d.selection.number + 1)))) tables)
        bank_full
    one-full h =
        let e = put_full d tables byte _ (answer-is ∙ rw (passes, le-ltb _ _ h)) refl in
        sym (ap₂ (λ (t : Told) (l : List ℕ). one (lent t.state l) t.answer) e.0 e.1)

    one-done : d.selection.place < end_of (bits_in d) d.selection.number → put_one (lent d tables) byte
        ≡ one (lent (with_place d (d.selection.place + 1))
        (set tables (first_byte_of (bits_in d) d.selection.number + d.selection.place) byte)) done
    one-done h =
        let e = put-done d tables byte (answer-is ∙ rw (passes, lt-ltb _ _ h)) in
        sym (ap₂ (λ (t : Told) (l : List ℕ). one (lent t.state l) t.answer) e.0 e.1)

-- ---- a run of puts

-- what a run leaves, by what was loaded
abbrev laden : Display → Loaded → List ℕ → Many Lent
laden d l tables = many (lent (with_errors (with_place d l.place) l.errors) tables) l.answer l.done

abbrev load_for : Display → List ℕ → ℕ → Loaded
load_for d tables n = load_of (bits_in d) d.active d.errors d.selection (length tables) n

abbrev tables_for : Display → List ℕ → List ℕ → List ℕ
tables_for d tables run = load_tables (bits_in d) d.active d.selection tables run

puts-load : (run : List ℕ) (d : Display) (tables : List ℕ)
    → run_of put_one (lent d tables) run ≡ laden d (load_for d tables (length run)) (tables_for d tables run)
puts-load [] d tables =
    let e = load-empty (bits_in d) d.active d.errors d.selection tables [] refl in
    run_none put_one (lent d tables) ∙ ap₂ (laden d) e.0 e.1
puts-load (byte ∷ run) d tables = ⊎_elim
    (λ (passes : refusal d tables ≡ done). ⊎_elim
    (λ (h : d.selection.place < end_of (bits_in d) d.selection.number).
    let c = one-done d tables byte passes h in
    let d' = with_place d (d.selection.place + 1) in
    let t' = set tables (first_byte_of (bits_in d) d.selection.number + d.selection.place) byte in
    run-goes put_one (lent d tables) byte run (ap (λ (o : One Lent). o.answer) c)
    ∙ ap (λ (o : One Lent). after 1 (run_of put_one o.left run)) c
    ∙ ap (after 1) (puts-load run d' t')
    ∙ ap (λ (n : ℕ).
    after 1 (laden d (load_of (bits_in d) d.active d.errors d'.selection n (length run)) (tables_for d' t' run)))
    (length-set tables _ byte)
    ∙ sym (ap₂ (laden d) (load_step (bits_in d) d.active d.errors d.selection tables byte run passes h)
    (tables_step (bits_in d) d.active d.errors d.selection tables byte run passes h)))
    (λ (h : end_of (bits_in d) d.selection.number ≤ d.selection.place).
    let c = one-full d tables byte passes h in
    let e = load_full (bits_in d) d.active d.errors d.selection tables (byte ∷ run) (λ z. omega arith) done 0 tables
    (sym passes) refl (omega arith) (sym (stored-none tables _)) _ (λ z. omega arith) refl in
    let p : d.selection.place ≡ d.selection.place + 0 = omega arith in
    let set = bit_or d.errors (2 ^ (4 * controller_of d.selection.number + 1)) in
    run-stops put_one (lent d tables) byte run
    (λ z. let y : bank_full ≡ done = ap (λ (o : One Lent). o.answer) (sym c) ∙ z in omega arith)
    ∙ ap (λ (o : One Lent). many o.left o.answer 0) c
    ∙ ap (λ (n : ℕ). many (lent (with_errors (with_place d n) set) tables) bank_full 0) p
    ∙ ap₂ (laden d) e.0 e.1)
    (split d.selection.place (end_of (bits_in d) d.selection.number)))
    (λ (ne : refusal d tables ≡ done → ⊥).
    let c = one-refused d tables byte ne in
    let e = load-refused (bits_in d) d.active d.errors d.selection tables (byte ∷ run) (λ z. omega arith)
    (refusal d tables) refl ne in
    run-stops put_one (lent d tables) byte run (λ z. ne (ap (λ (o : One Lent). o.answer) (sym c) ∙ z))
    ∙ ap (λ (o : One Lent). many o.left o.answer 0) c ∙ ap₂ (laden d) e.0 e.1)
    (same_or (refusal d tables) done)

-- ---- a run of writes

-- the single call, by the pending words
one-write : (d : Display) (p : List ℕ) (w : Write) → write_one (with_pending d p) w
    ≡ one (with_pending d (write_word p w).left) (write_word p w).answer
one-write d p w = go (ltb w.register 52)
  where
    go : (t : Bool)
        → one (choose t (told (with_pending d (set p w.register w.value)) done)
        (told (with_pending d p) no_register)).state
        (choose t (told (with_pending d (set p w.register w.value)) done)
        (told (with_pending d p) no_register)).answer
        ≡ one (with_pending d (choose t (one (set p w.register w.value) done) (one p no_register)).left)
        (choose t (one (set p w.register w.value) done) (one p no_register)).answer
    go true = refl
    go false = refl

writes-words : (d : Display) (run : List ℕ) → writes d run
    ≡ many (with_pending d (writes_of d.pending run).left) (writes_of d.pending run).answer
    (writes_of d.pending run).count
unfolding writes writes_of
writes-words d run = run-map (with_pending d) write_word write_one (one-write d) (writes_in run) d.pending

-- ---- as the code has them

module _ (d : Display) (tables run : List ℕ) (l : Loaded) (tables' : List ℕ)
    (e : l ≡ load_for d tables (length run)) (t : tables' ≡ tables_for d tables run) where
  pub put-run-is : (ran (with_errors (with_place d l.place) l.errors) l.answer l.done ≡ put_run_of d tables run)
      × (tables' ≡ put_run_tables d tables run)
  unfolding put_run_of put_run_tables puts
  put-run-is =
      let q = sym (puts-load run d tables) in (
        ap (λ (x : Loaded). ran (with_errors (with_place d x.place) x.errors) x.answer x.done) e
            ∙ ap (λ (m : Many Lent). ran m.left.state m.answer m.count) q,
        t ∙ ap (λ (m : Many Lent). m.left.tables) q,
      )

pub write-run-is : (d : Display) (run pending : List ℕ) (w : Went) → w ≡ went_of (writes_of d.pending run)
    → pending ≡ (writes_of d.pending run).left
    → ran (with_pending d pending) w.answer w.done ≡ write_run_of d run
unfolding write_run_of
write-run-is d run pending w e p =
    ap₂ (λ (x : Went) (l : List ℕ). ran (with_pending d l) x.answer x.done) e p
    ∙ ap (λ (m : Many Display). ran m.left m.answer m.count) (sym (writes-words d run))

-- a put is a run of one byte
pub put-is-run : (d : Display) (tables tables' : List ℕ) (byte : ℕ) (r : Ran) → r ≡ put_run_of d tables (byte ∷ [])
    → tables' ≡ put_run_tables d tables (byte ∷ [])
    → (told_by r ≡ put_of d tables) × (tables' ≡ put_tables d tables byte)
unfolding put_run_of put_run_tables puts
put-is-run d tables tables' byte r e t =
    let o = run-one put_one (lent d tables) byte in (
      ap told_by e ∙ ap₂ (λ (l : Lent) (n : ℕ). told l.state n) o.0 o.1,
      t ∙ ap (λ (l : Lent). l.tables) o.0,
    )
