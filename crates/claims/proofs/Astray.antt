-- Versions in read sets: 16 is answered exactly where it should be and tells the first read that is astray, since it is the first test that
-- does not pass; an accepted commit has none; and what a replica shows never is, since the run has a version from an entry that stamps the cell.
use Prim.Native.Nat.{ℕ, ◌≤◌}
use mathlib.Core.Path.{◌≡◌, refl, ap, sym, ◌∙◌, subst}
use mathlib.Core.Logic.{inl, inr}
use mathlib.Core.Bool.{Bool, true, false}
use mathlib.Core.List.{List, [], ◌∷◌}
use mathlib.Core.Option.{Option, none, some}
use native.Mathlib.Omega.{arith}
use lib.Dec.{leb}
use Rattle.lists.specs.Tests.{clash}
use Rattle.lists.specs.Sets.{is_empty}
use Rattle.model.specs.Objects.{Layout, Shape}
use Rattle.model.specs.Entries.{Read, Held, Log, if_some, astray, closed, writes_of}
use Rattle.model.specs.Slot.{log_in, ok_shape}
use Rattle.model.specs.Table.{version_in}
use Rattle.model.specs.Rules.{lowest_bad}
use Rattle.model.specs.Answers.{Refusal, Answer, done, refused, refuse, refuse_at, first_place, first_of, slots, bad_frame}
use Rattle.model.specs.Append.{Request, commits, own_tests, append_refusal, append_given, append, reads_given}
use Rattle.model.specs.Histories.{Lent, in_log, append_to, grown, empty, History, whole_log, stood, Carried, plays}
use Rattle.model.specs.ReadClaims.{FirstAstray, TellsAstray, AstrayNone, ShownPasses, read_of}
use Rattle.model.specs.Terms.{Pointed}
use Rattle.laws.proofs.Refusals.{not_none, good-below, below-good}
use Rattle.laws.proofs.Agree.{Agree, stamps-agree}
use Rattle.laws.proofs.Places.{First, place-first, first-place}
use Rattle.claims.proofs.Terms.{frame-words, words-frame}
use Rattle.claims.proofs.Stamps.{stamps-words, pointed-words, words-pointed, pointed-on}
use Rattle.claims.proofs.Accepts.{bad_commit, asked-words, words-asked, accepts-exactly}
use Rattle.claims.proofs.Runs.{From, from-entry}
use Rattle.claims.proofs.Histories.{Longer, grown-longer, first-longer}
use Rattle.claims.proofs.Demand3.{read_back_lem, replica-good}

-- ---- 16 among the tests of a commit

abbrev telling : ℕ → Refusal
telling i = record { number = 16; told = some i }

-- the tests of a commit, from what each finds
abbrev tests : Option ℕ → Bool → Option ℕ → Bool → Bool → Bool → Option ℕ → Bool → Option Refusal
tests fault frame bad given old none-there found full =
    first_of (refuse_at 15 fault ∷ refuse 1 frame ∷ refuse_at 2 bad ∷ refuse 3 given ∷ refuse 4 old ∷ refuse 6 none-there ∷ refuse_at 16 found ∷ refuse 9 full ∷ [])

abbrev number_in : Option Refusal → ℕ
number_in x = if_some x 0 (λ r. r.number)

abbrev told_in : Option Refusal → Option ℕ
told_in x = if_some x none (λ r. r.told)

-- what was found where the answer is 16
record Found (fault : Option ℕ) (frame : Bool) (bad : Option ℕ) (given old none-there : Bool) (found : Option ℕ) (i : ℕ) : Type 0 where
  directed : fault ≡ none
  framed : frame ≡ false
  good : bad ≡ none
  asked : given ≡ false
  still_open : old ≡ false
  updated : none-there ≡ false
  astray-at : found ≡ some i

sixteen : (fault : Option ℕ) (frame : Bool) (bad : Option ℕ) (given old none-there : Bool) (found : Option ℕ) (full : Bool) (i : ℕ)
    → tests fault frame bad given old none-there found full ≡ some (telling i) → Found fault frame bad given old none-there found i
sixteen (some k) r b g o n f l i e = let z : ◌≡◌ {A = ℕ} 15 16 = ap number_in e in absurd (omega arith)
sixteen none true b g o n f l i e = let z : ◌≡◌ {A = ℕ} 1 16 = ap number_in e in absurd (omega arith)
sixteen none false (some p) g o n f l i e = let z : ◌≡◌ {A = ℕ} 2 16 = ap number_in e in absurd (omega arith)
sixteen none false none true o n f l i e = let z : ◌≡◌ {A = ℕ} 3 16 = ap number_in e in absurd (omega arith)
sixteen none false none false true n f l i e = let z : ◌≡◌ {A = ℕ} 4 16 = ap number_in e in absurd (omega arith)
sixteen none false none false false true f l i e = let z : ◌≡◌ {A = ℕ} 6 16 = ap number_in e in absurd (omega arith)
sixteen none false none false false false none true i e = let z : ◌≡◌ {A = ℕ} 9 16 = ap number_in e in absurd (omega arith)
sixteen none false none false false false none false i e = not_none (telling i) (sym e)
sixteen none false none false false false (some j) l i e =
    record { directed = refl; framed = refl; good = refl; asked = refl; still_open = refl; updated = refl; astray-at = ap told_in e }

sixteen-so : (fault : Option ℕ) (frame : Bool) (bad : Option ℕ) (given old none-there : Bool) (found : Option ℕ) (full : Bool) (i : ℕ)
    → Found fault frame bad given old none-there found i → tests fault frame bad given old none-there found full ≡ some (telling i)
sixteen-so fault frame bad given old none-there found full i f = rw (f.directed, f.framed, f.good, f.asked, f.still_open, f.updated, f.astray-at)

-- ---- the append's answer is its refusal's

abbrev refusal_in : {A : Type 0} → Answer A → Option Refusal
refusal_in (done a) = none
refusal_in (refused r) = some r

refusal-of : (ly : Layout) (bytes : List ℕ) (tail : ℕ) (s : List ℕ) (x : Option Refusal) → refusal_in (append_given ly bytes tail s x).new_tail ≡ x
refusal-of ly bytes tail s none = refl
refusal-of ly bytes tail s (some r) = refl

module _ (sh : Shape) (l : Lent) (q : Request) where
  answer-is : refusal_in (append_to sh l q).new_tail ≡ append_refusal sh (in_log sh l) q
  unfolding append
  answer-is = refusal-of sh.layout l.bytes (in_log sh l).tail _ (append_refusal sh (in_log sh l) q)

  refused-so : (r : Refusal) → (append_to sh l q).new_tail ≡ refused r → append_refusal sh (in_log sh l) q ≡ some r
  refused-so r e = sym answer-is ∙ ap refusal_in e

  so-refused : (r : Refusal) → append_refusal sh (in_log sh l) q ≡ some r → (append_to sh l q).new_tail ≡ refused r
  so-refused r e = go (append_to sh l q).new_tail (answer-is ∙ e)
    where
      go : (a : Answer ℕ) → refusal_in a ≡ some r → a ≡ refused r
      go (done t) i = not_none r (sym i)
      go (refused x) i = ap (λ (y : Option Refusal). if_some y (refused r) (λ z. refused z)) i

module _ (sh : Shape) (shape : ok_shape sh ≡ true) (l : Lent) (n : ℕ) (items : List ℕ) (a b i : ℕ) where
  abbrev log : Log
  log = in_log sh l

  abbrev reads : List Read
  reads = reads_given items

  first-astray : (append_to sh l (commits n items a b)).new_tail ≡ refused (telling i) → FirstAstray sh l n items a b i
  unfolding own_tests
  first-astray e =
      let f = sixteen sh.fault (bad_frame sh.layout log) (lowest_bad sh log) (bad_commit sh log n items a b) (closed log n log.tail) (is_empty (writes_of log n log.tail))
      (first_place (astray log) reads) (leb (slots sh.layout log) log.tail) i (refused-so sh l (commits n items a b) (telling i) e) in
      let p : First (astray log) reads i = place-first (astray log) reads i f.astray-at in
      record {
        directed = f.directed;
        framed = frame-words sh l f.framed;
        good = good-below sh log f.good;
        asked = asked-words sh log n items a b f.asked f.still_open f.updated;
        before = p.before;
        read = p.here;
        rest = p.rest;
        reads = p.parts;
        place = p.place;
        others = λ x m. pointed-words log x (p.fails x m);
        astray = λ w. clash (astray log p.here) p.passes (words-pointed log p.here w);
      }

  astray-first : FirstAstray sh l n items a b i → (append_to sh l (commits n items a b)).new_tail ≡ refused (telling i)
  unfolding own_tests
  astray-first f =
      let w = words-asked sh log n items a b f.asked in
      let hit : astray log f.read ≡ true = bad (astray log f.read) refl in
      let found : first_place (astray log) reads ≡ some i =
      ap (first_place (astray log)) f.reads ∙ first-place (astray log) f.before f.read f.rest (λ x m. words-pointed log x (f.others x m)) hit ∙ ap some f.place in
      so-refused sh l (commits n items a b) (telling i) (sixteen-so _ _ _ _ _ _ _ (leb (slots sh.layout log) log.tail) i (record {
        directed = f.directed;
        framed = words-frame sh shape l f.framed;
        good = below-good sh log f.good;
        asked = w.0;
        still_open = w.1;
        updated = w.2;
        astray-at = found;
      }))
    where
      bad : (b : Bool) → astray log f.read ≡ b → b ≡ true
      bad true e = refl
      bad false e = absurd (f.astray (pointed-words log f.read e))

pub tells-astray : (sh : Shape) → ok_shape sh ≡ true → TellsAstray sh
tells-astray sh shape l n items a b i = (first-astray sh shape l n items a b i, astray-first sh shape l n items a b i)

-- ---- an accepted commit has none

pub astray-none : (sh : Shape) → ok_shape sh ≡ true → AstrayNone sh
unfolding log_in grown
astray-none sh shape l n items a b taken later x m =
    let q : Request = commits n items a b in
    let w = ((accepts-exactly sh shape l q).0 taken).allowed in
    let up : Longer sh l (grown sh l (q ∷ later)) = grown-longer sh shape l (q ∷ later) in
    pointed-on (in_log sh l) (in_log sh (grown sh l (q ∷ later))) l.tail x up.agrees (w.asked.each x m).1 (w.pointed x m)

-- ---- what a replica shows has none

not-above : (log : Log) (o k p : ℕ) (x : Option Held) → From log o k p x → version_in x ≤ p
not-above log o k p x (inl z) = omega arith
not-above log o k p x (inr (q, l, v, t)) = omega arith

module _ (sh : Shape) (shape : ok_shape sh ≡ true) (h : History) (m : ℕ) (later : List Request) where
  abbrev whole : Log
  whole = in_log sh (whole_log sh h)

  abbrev then : Log
  then = in_log sh (grown sh (stood sh h m) later)

  agrees : Agree then whole (stood sh h m).tail
  agrees p l = (grown-longer sh shape (stood sh h m) later).agrees p l ∙ sym ((first-longer sh shape (empty h.bytes) m h.requests).agrees p l)

  from-pointed : (o k p : ℕ) (x : Option Held) → version_in x ≤ (stood sh h m).tail → From (in_log sh (whole_log sh h)) o k p x → Pointed (in_log sh (grown sh (stood sh h m) later)) (read_of o k x)
  from-pointed o k p x low (inl z) = inl z
  from-pointed o k p x low (inr (q, l, v, t)) = inr (q, v, stamps-words then q o k (stamps-agree then whole q (stood sh h m).tail o k (omega arith) agrees ∙ t))

pub shown-passes : (sh : Shape) → ok_shape sh ≡ true → ShownPasses sh
shown-passes sh shape h scratch passed opening r e ps o k held s =
    let x : Carried = plays sh h r ps in
    let p : ℕ = x.replica.position in
    let log : Log = in_log sh (whole_log sh h) in
    let from : From log o k p held = subst (From log o k p) (read_back_lem sh log x (replica-good sh shape h scratch passed opening r e ps) o k held s) (from-entry log p o k) in
    record { past = not-above log o k p held from; pointed = λ m low later. from-pointed sh shape h m later o k p held low from }
