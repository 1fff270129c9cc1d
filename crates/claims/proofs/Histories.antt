-- Histories: a log only grows, so as it stood it agrees with the whole log below its tail and is as good; and the run fed by
-- the history's appends is the run over the entries of its log. Each by induction over the appends, refused or accepted.
use Prim.Native.Nat.{ℕ, zero, suc, ◌+◌, ◌/◌, ◌%◌, ◌<◌, ◌≤◌}
use mathlib.Core.Path.{◌≡◌, refl, ap, sym, ◌∙◌, subst}
use mathlib.Core.Bool.{Bool, true, false, cond, not, ◌||◌}
use mathlib.Core.List.{List, [], ◌∷◌, ◌++◌}
use mathlib.Core.Option.{none}
use native.Mathlib.Omega.{arith}
use native.Mathlib.Numerals.{add-one}
use borrow.Author.Tests.{eqb-true, eqb-false, ltb-true, ltb-false, le-ltb}
use lib.Dec.{eqb, ltb}
use lib.ListN.{length, take}
use Rattle.lists.specs.Tests.{ands, or_l, or_r, neither, clash}
use Rattle.model.specs.Objects.{Layout, Shape}
use Rattle.model.specs.Entries.{decision, Log}
use Rattle.model.specs.Slot.{log_in, most_slots, ok_shape}
use Rattle.model.specs.Rules.{ok_entry, lowest_bad}
use Rattle.model.specs.Answers.{Answer, done, refused, slots, bad_frame}
use Rattle.model.specs.Append.{Request, entry_of}
use Rattle.model.specs.Run.{Fed, accept, run_at}
use Rattle.model.specs.Histories.{Accepted, Lent, in_log, tail_after, is_refused, append_to, after, grown, feed, empty, History, whole_log, stood, ran_to}
use Rattle.laws.proofs.Agree.{Agree, fewer}
use Rattle.laws.proofs.Appends.{accepted, refused-same, good-kept}
use Rattle.claims.proofs.Runs.{run, run-start, count-run, run_agree, run-next}
use Rattle.claims.proofs.KeepsGood.{grown-good, empty-good}
use Rattle.claims.proofs.Steps.{TrueBelow}
use Rattle.claims.proofs.Audits.{Sound, decisions-true}

-- ---- one append

pub record Grew (sh : Shape) (l : Lent) (q : Request) : Type 0 where
  pub taken : is_refused (append_to sh l q).new_tail ≡ false
  pub longer : (after sh l q).tail ≡ l.tail + 1
  pub size : length (after sh l q).bytes ≡ length l.bytes
  pub below : Agree (in_log sh (after sh l q)) (in_log sh l) l.tail
  pub here : (in_log sh (after sh l q)).entry l.tail ≡ entry_of (in_log sh l) q

data Turn (sh : Shape) (l : Lent) (q : Request) : Type 0 where
  kept : is_refused (append_to sh l q).new_tail ≡ true → after sh l q ≡ l → Turn sh l q
  grew : Grew sh l q → Turn sh l q

-- the log grew from l to m
pub record Longer (sh : Shape) (l m : Lent) : Type 0 where
  pub tails : l.tail ≤ m.tail
  pub size : length m.bytes ≡ length l.bytes
  pub agrees : Agree (in_log sh m) (in_log sh l) l.tail

not-longer : (sh : Shape) (l : Lent) → Longer sh l l
not-longer sh l = record { tails = omega arith; size = refl; agrees = λ o h. refl }

even-longer : (sh : Shape) (l m n : Lent) → Longer sh l m → Longer sh m n → Longer sh l n
even-longer sh l m n a b = record {
  tails = omega (arith, a.tails, b.tails);
  size = b.size ∙ a.size;
  agrees = λ o h. b.agrees o (omega (arith, a.tails)) ∙ a.agrees o h;
}

pub grown-append : (sh : Shape) (l : Lent) (xs ys : List Request) → grown sh l (xs ++ ys) ≡ grown sh (grown sh l xs) ys
unfolding grown
grown-append sh l [] ys = refl
grown-append sh l (x ∷ xs) ys = grown-append sh (after sh l x) xs ys

module _ (sh : Shape) (shape : ok_shape sh ≡ true) where
  turn : (l : Lent) (q : Request) → Turn sh l q
  turn l q = go (append_to sh l q).new_tail refl
    where
      go : (x : Answer ℕ) → (append_to sh l q).new_tail ≡ x → Turn sh l q
      go (done t) e =
          let a = accepted sh l.bytes l.tail q t shape e in
          let n : (after sh l q).tail ≡ l.tail + 1 = ap (tail_after l.tail) e ∙ a.next in
          grew (record { taken = ap is_refused e; longer = n; size = a.size; below = rw n a.below; here = rw n a.here })
      go (refused r) e =
          let b = refused-same sh l.bytes l.tail q r e in
          kept (ap is_refused e) (λ i. record { bytes = b i; tail = tail_after l.tail (e i) })

  after-longer : (l : Lent) (q : Request) → Longer sh l (after sh l q)
  after-longer l q = go (turn l q)
    where
      go : Turn sh l q → Longer sh l (after sh l q)
      go (kept e s) = subst (λ x. Longer sh l x) (sym s) (not-longer sh l)
      go (grew g) = record { tails = omega (arith, g.longer); size = g.size; agrees = g.below }

  pub grown-longer : (l : Lent) (qs : List Request) → Longer sh l (grown sh l qs)
  unfolding grown
  grown-longer l [] = not-longer sh l
  grown-longer l (q ∷ qs) = even-longer sh l (after sh l q) (grown sh (after sh l q) qs) (after-longer l q) (grown-longer (after sh l q) qs)

  -- the log after the first n appends, and the whole
  pub first-longer : (l : Lent) (n : ℕ) (qs : List Request) → Longer sh (grown sh l (take n qs)) (grown sh l qs)
  unfolding grown
  first-longer l zero qs = grown-longer l qs
  first-longer l (suc n) [] = not-longer sh l
  first-longer l (suc n) (q ∷ qs) = first-longer (after sh l q) n qs

  pub accepted-grew : (l : Lent) (q : Request) → Accepted sh l q → Grew sh l q
  accepted-grew l q taken = go (turn l q)
    where
      go : Turn sh l q → Grew sh l q
      go (kept e s) = clash (is_refused (append_to sh l q).new_tail) e taken
      go (grew g) = g

  -- an accepted append lies below the tail of what later appends leave
  pub accepted-below : (l : Lent) (q : Request) (qs : List Request) → Accepted sh l q → l.tail < (grown sh (after sh l q) qs).tail
  accepted-below l q qs taken = omega (arith, (accepted-grew l q taken).longer, (grown-longer (after sh l q) qs).tails)

  -- ---- the run that is fed

  fed-more : (log before : Log) (q : Request) (n p : ℕ) (fs : List Fed) → log.entry n ≡ entry_of before q → n ≤ p → (suc n ≤ p → run_at p (run log (suc n)) fs ≡ run log p)
      → cond (eqb (run log n).count p) (run log n) (run_at p (accept ((run log n).count + 1) (run log n) q) fs) ≡ run log p
  fed-more log before q n p fs e l h = go (eqb (run log n).count p) refl
    where
      past : ((run log n).count ≡ p → ⊥) → suc n ≤ p
      past d = let d' : n ≡ p → ⊥ = λ i. d (count-run log n ∙ i) in omega arith

      go : (b : Bool) → eqb (run log n).count p ≡ b → cond b (run log n) (run_at p (accept ((run log n).count + 1) (run log n) q) fs) ≡ run log p
      go true i = ap (run log) (sym (count-run log n) ∙ eqb-true (run log n).count p i)
      go false i = ap (λ s. run_at p s fs) (run-next log before q n e) ∙ h (past (eqb-false (run log n).count p i))

  run-fed : (l : Lent) (qs : List Request) (p : ℕ) → l.tail ≤ p → p ≤ (grown sh l qs).tail
      → run_at p (run (in_log sh (grown sh l qs)) l.tail) (feed sh l qs) ≡ run (in_log sh (grown sh l qs)) p
  unfolding grown feed run_at
  run-fed l [] p a b = let e : l.tail ≡ p = omega arith in ap (run (in_log sh l)) e
  run-fed l (q ∷ qs) p a b = go (turn l q) (λ c. run-fed (after sh l q) qs p c b)
    where
      whole : Log
      whole = in_log sh (grown sh (after sh l q) qs)

      fs : List Fed
      fs = feed sh (after sh l q) qs

      go : Turn sh l q → ((after sh l q).tail ≤ p → run_at p (run whole (after sh l q).tail) fs ≡ run whole p)
          → cond (is_refused (append_to sh l q).new_tail) (run_at p (run whole l.tail) fs)
          (cond (eqb (run whole l.tail).count p) (run whole l.tail) (run_at p (accept ((run whole l.tail).count + 1) (run whole l.tail) q) fs))
          ≡ run whole p
      go (kept e s) ih =
          let t : (after sh l q).tail ≡ l.tail = ap (λ x. x.tail) s in
          rw e (subst (λ n. run_at p (run whole n) fs ≡ run whole p) t (ih (omega arith)))
      go (grew g) ih =
          let t : (after sh l q).tail ≡ suc l.tail = g.longer ∙ add-one l.tail in
          let e : whole.entry l.tail ≡ entry_of (in_log sh l) q = (grown-longer (after sh l q) qs).agrees l.tail (omega arith) ∙ g.here in
          rw g.taken (fed-more whole (in_log sh l) q l.tail p fs e a (λ h. subst (λ n. run_at p (run whole n) fs ≡ run whole p) t (ih (omega arith))))

  -- what the run had at count p, over the entries
  pub run-at : (h : History) (p : ℕ) → p ≤ (whole_log sh h).tail → ran_to sh h p ≡ run (in_log sh (whole_log sh h)) p
  run-at h p l =
      ap (λ s. run_at p s (feed sh (empty h.bytes) h.requests)) (sym (run-start (in_log sh (whole_log sh h))))
      ∙ run-fed (empty h.bytes) h.requests p (omega arith) l

-- ---- the log as it stood

frame_below : (ly : Layout) (old new : Log) → bad_frame ly new ≡ false → new.size ≡ old.size → old.tail ≤ new.tail → bad_frame ly old ≡ false
unfolding bad_frame
frame_below ly old new e s l =
    let whole : (not (eqb (old.size % ly.slot_size) 0) || ltb most_slots (slots ly old)) ≡ false = rw (← s) (or_l _ (ltb (slots ly new) new.tail) e) in
    let high : ltb (slots ly new) new.tail ≡ false = or_r (not (eqb (new.size % ly.slot_size) 0) || ltb most_slots (slots ly new)) (ltb (slots ly new) new.tail) e in
    neither whole (le-ltb (slots ly old) old.tail (omega (arith, ltb-false (slots ly new) new.tail high, ap (λ (n : ℕ). n / ly.slot_size) s)))

-- a log as it stood when the whole log had a lower tail
pub record Stood (sh : Shape) (whole log : Log) : Type 0 where
  pub tails : log.tail ≤ whole.tail
  pub agrees : Agree log whole log.tail
  pub directed : sh.fault ≡ none
  pub frame : bad_frame sh.layout log ≡ false
  pub good : lowest_bad sh log ≡ none
  pub truths : TrueBelow log log.tail

-- its decision records say what the run decided
true_below : (sh : Shape) (whole log : Log) → lowest_bad sh whole ≡ none → log.tail ≤ whole.tail → Agree log whole log.tail → TrueBelow whole whole.tail → TrueBelow log log.tail
unfolding ok_entry
true_below sh whole log g l a tr d h r e =
    let o : ℕ = r.offset in
    let e' : whole.entry d ≡ decision r = sym (a d h) ∙ e in
    let k : ok_entry sh whole d (decision r) ≡ true = rw e' at (good-kept sh whole g d (omega arith)) in
    let lt : ltb r.offset d ≡ true = search ands in
    let below : r.offset < d = ltb-true r.offset d lt in
    tr d (omega arith) r e' ∙ rw (run_agree log whole o (fewer log whole log.tail o (omega arith) a), a o (omega arith))

pub stood-so : (sh : Shape) → ok_shape sh ≡ true → (h : History) (room n : ℕ) → Sound sh (in_log sh (whole_log sh h)) room → Stood sh (in_log sh (whole_log sh h)) (in_log sh (stood sh h n))
unfolding log_in
stood-so sh shape h room n sound =
    let start : Lent = empty h.bytes in
    let up : Longer sh (stood sh h n) (whole_log sh h) = first-longer sh shape start n h.requests in
    let agrees : Agree (in_log sh (stood sh h n)) (in_log sh (whole_log sh h)) (stood sh h n).tail = λ o k. sym (up.agrees o k) in
    record {
      tails = up.tails;
      agrees = agrees;
      directed = sound.directed;
      frame = frame_below sh.layout (in_log sh (stood sh h n)) (in_log sh (whole_log sh h)) sound.frame up.size up.tails;
      good = grown-good sh shape start (take n h.requests) (empty-good sh shape h.bytes);
      truths = true_below sh (in_log sh (whole_log sh h)) (in_log sh (stood sh h n)) sound.good up.tails agrees (decisions-true sh shape (in_log sh (whole_log sh h)) room sound);
    }
