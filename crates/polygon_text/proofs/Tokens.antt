-- Laws of white space and tokens (SpacedThen of the grammar), of any tokens. Proved, in order: onward (another rest),
-- split, joined (tokens in two parts), reached (the rest, and what else it may be).
use mathlib.Core.List.{List, [], ◌∷◌, ◌++◌}
use Prim.Native.Nat.{ℕ}
use Rattle.polygon_text.specs.Grammar.{Tokens, SpacedThen}

pub onward : (P Q : List ℕ → Type 0) (ts : Tokens) (text : List ℕ) → ((rest : List ℕ) → P rest → Q rest) →
    SpacedThen P ts text → SpacedThen Q ts text
onward P Q [] text f h = f text h
onward P Q (t ∷ ts) text f h = (h.0, h.1, h.2, h.3, onward P Q ts h.1 f h.4)

pub split : (P : List ℕ → Type 0) (ts us : Tokens) (text : List ℕ) → SpacedThen P (ts ++ us) text →
    SpacedThen (SpacedThen P us) ts text
split P [] us text h = h
split P (t ∷ ts) us text h = (h.0, h.1, h.2, h.3, split P ts us h.1 h.4)

pub joined : (P : List ℕ → Type 0) (ts us : Tokens) (text : List ℕ) → SpacedThen (SpacedThen P us) ts text →
    SpacedThen P (ts ++ us) text
joined P [] us text h = h
joined P (t ∷ ts) us text h = (h.0, h.1, h.2, h.3, joined P ts us h.1 h.4)

-- What comes behind tokens can be exchanged.
pub reached : (P : List ℕ → Type 0) (ts : Tokens) (text : List ℕ) → SpacedThen P ts text →
    (rest : List ℕ) × P rest × ((Q : List ℕ → Type 0) → Q rest → SpacedThen Q ts text)
reached P [] text h = (text, h, λ Q q. q)
reached P (t ∷ ts) text h =
    let r = reached P ts h.1 h.4 in
    (r.0, r.1, λ Q q. (h.0, h.1, h.2, h.3, r.2 Q q))
