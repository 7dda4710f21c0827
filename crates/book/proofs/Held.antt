-- What a `Reader` owns, for the walks of the functions that are passed one: src/reader.rt, proofs/reader. Defined, in
-- order: mach, slice (the machine values of the struct and of its slice), Own, Slice (what they own), D, L, values;
-- StepAt, passed, to_step (the contract of `step_at`, and how it is called on the parts). Proved, in order: apart (the
-- slice's part, beside all of it), again (with another number), asked (what `step_at` asks), said (what it tells).
use mathlib.Core.Path.{◌≡◌, refl}
use Prim.Native.Nat.{ℕ, ◌<◌, ◌^◌}
use mathlib.Core.List.{[], ◌∷◌}
use lib.ListN.{length}
use seplogic.Ra.Ura.{Ura}
use mir.Syntax.{named, w64}
use mir.Val.{Val, vint}
use base.Logic.{SProp, ent, sep, snd∗, ex_e}
use base.Fml.{Share, Fml, ftrue, flft}
use prog.Memory.{Memory}
use prog.Routine.{Routine}
use types.Logic.{Logic, sem}
use contract.Monad.{Fun, fact}
use types.Kit.{‵, ◌⊛◌, given, ⋆, ◌$◌, ◌∵◌, !, qed, by, move, drop, use1, split, join, learn, fjoin, frame, done}
use denote.Laws.{Is}
use denote.Plain.{uint_Makes}
use denote.Builtin.{u8, usize}
use denote.Ref.{NamedLft}
use denote.Slice.{slice_val, ShrSlice}
use denote.Steps.{owned, nothing}
use denote.Struct.Declared.{Declared}
use denote.Struct.Laws as LL
use denote.Struct.Rest.{all_own, field_own, rest, own_open, own_out, own_put}
use denote.Struct.Values.{Values}
use denote.Triple.Statement.{Contract}
use denote.Triple.Clauses.{ensured, lasts}
use denote.Triple.Entry.{Vals}
use denote.Triple.Spec.{triple_of}
use Rattle.book.specs.Step.{step_at}
use Rattle.book.specs.declared.reader.Reader.{Reader}
use Rattle.book.specs.Step.{Step}
use Rattle.book.specs.contracts.reader.Reader as T
use Rattle.book.proofs.reader.Reader.TheLaws as T'
use Rattle.book.specs.contracts.step.step_at as step

-- ---- the struct, at a lifetime

module _ (α : NamedLft) (h : Reader) where
  abbrev pub mach : Val
  mach = T'.lowered h

  abbrev pub slice : Val
  slice = slice_val h.book.ref_ptr (length h.book.now)

  abbrev pub Own : Fml
  Own = (T.the_row α).own_val h (mach ∷ [])

  abbrev pub Slice : Fml
  Slice = (ShrSlice (named 0) α.lft u8).own_val h.book (slice ∷ [])

  abbrev pub D : Declared
  D = T.the_type α

  abbrev pub L : LL.Laws D
  L = T'.the_laws α

  abbrev values : Values D.parts
  values = (h.book, (h.at, tt))

  -- what `step_at` is passed
  abbrev pub passed : Vals step.signature (α.lft, tt)
  passed = (slice ∷ [], (vint w64 h.at ∷ [], tt))

-- the struct with the number m
abbrev pub moved : Reader → ℕ → Reader
moved h m = record { book = h.book; at = m }

module _ {M : Type 1} {𝓤 : Ura M} (𝓛 : Logic 𝓤) (α : NamedLft) (h : Reader) where
  -- The struct is Copy: of a copy of what it owns the slice's part is taken.
  pub apart : ent 𝓤 (sem 𝓛 (Own α h)) (sep 𝓤 (sem 𝓛 (Slice α h)) (sem 𝓛 (Own α h)))
  apart =
      qed 𝓛 (‵ (Own α h) ∷ []) ∵
      use1 𝓛 (‵ (Own α h) ⊛ ‵ (Own α h)) ((LL.copy (D α h) (T'.the_copy α) 𝓛).twice h (mach α h ∷ [])) $
      split ! $
      use1 𝓛 (given (mach α h ∷ [] ≡ mach α h ∷ []) (‵ (all_own (D α h).parts (L α h) (values α h))))
      (own_open 𝓛 (D α h) (L α h) (values α h) (mach α h)) $
      learn ! (λ _. use1 𝓛
      (‵ (field_own (D α h).parts (L α h) 0 h.book) ⊛ ‵ (rest (D α h).parts (L α h) 0 (values α h)))
      (own_out 𝓛 (D α h).parts (L α h) 0 (values α h)) $
      split ! $ move ! (1 ∷ []) $ drop ! $ frame ! $ done !)

  -- The slice's part is kept, and the number's facts are made anew.
  pub again : (m : ℕ) → m < 2 ^ 64 → ent 𝓤 (sem 𝓛 (Own α h)) (sem 𝓛 (Own α (moved h m)))
  again m ok =
      qed 𝓛 (‵ (Own α h) ∷ []) ∵ owned ! usize (Is usize) (uint_Makes 𝓛 w64) m _ (refl, ok) $
      move ! (1 ∷ 0 ∷ []) $ by ! (own_put 𝓛 (D α h) (L α h) 1 (values α h) m (mach α h))

-- ---- the call of `step_at`

module _ {M : Type 1} {𝓤 : Ura M} (𝓛 : Logic 𝓤) (mem : Memory → SProp 𝓤) (run : Routine → Fun 𝓤) where
  abbrev pub StepAt : Contract 𝓤
  StepAt = triple_of 𝓛 step.signature (step.spec 𝓛 mem run)

module _ {M : Type 1} {𝓤 : Ura M} (𝓛 : Logic 𝓤) (mem : Memory → SProp 𝓤)
    (run : Routine → Fun 𝓤) (α : NamedLft) (q : Share) (h : Reader) where
  abbrev pub to_step : (StepAt 𝓛 mem run).Ghost
  to_step = (((α.lft, tt), (q, tt), tt, (h.book, (h.at, tt)), passed α h), tt)

  pub asked : h.at < 2 ^ 64 →
      ent 𝓤 (⋆ 𝓛 (‵ (Slice α h) ∷ (‵ (flft α.lft q) ⊛ ‵ ftrue) ∷ [])) ((StepAt 𝓛 mem run).pre to_step)
  asked fits =
      qed 𝓛 (‵ (Slice α h) ∷ (‵ (flft α.lft q) ⊛ ‵ ftrue) ∷ []) ∵ nothing ! $
      owned ! usize (Is usize) (uint_Makes 𝓛 w64) h.at _ (refl, fits) $ fjoin ! $ move ! (1 ∷ 0 ∷ []) $
      fjoin ! $ move ! (1 ∷ 0 ∷ []) $ join ! $ frame ! $ done !

  -- Of the callee's `ensured` the clause alone: it has no `&mut`, so what is said of last values is dropped.
  pub said : (r : Step) →
      ent 𝓤 (ensured 𝓛 step.ended (step.clauses 𝓛 mem run) (α.lft, tt) (h.book, (h.at, tt)) tt r)
      (fact 𝓤 (r ≡ step_at h.book.now h.at))
  said r = ex_e 𝓤 _ (λ ws. snd∗ 𝓤 (sem 𝓛 (lasts step.ended (α.lft, tt) (h.book, (h.at, tt)) ws))
      (fact 𝓤 (r ≡ step_at h.book.now h.at)))
