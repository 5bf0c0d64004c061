-- Changed terminals are as sound.
use Rattle.std.proofs.Common.{◌≡◌, ℕ, zero, suc, List, [], ◌∷◌, map, refl, Option, Some, None}
use Rattle.std.specs.Option.{option_map}
use Rattle.sql_token.specs.declared.terminal.Terminal.{Terminal}
use Rattle.sql_token.specs.Sound.{opened, closed, partner, matches, begins_atomic, may_stand, sound_from, is_sound}
use Rattle.law_renumber.specs.Trees.{SoundRenumbers}
use Rattle.law_renumber.proofs.Seen.{round_sees, unicode_name_sees, Change, Changes, changed, opener_sees, closer_sees}
use Rattle.law_renumber.proofs.Basics.{moves}

opened_sees : (f : Change) (ts : List Terminal) → opened (map (changed f) ts) ≡ opened ts
opened_sees f [] = refl
opened_sees f (t ∷ ts) = rw (opener_sees f t, opened_sees f ts) refl

closed_sees : (f : Change) (ts : List Terminal) → closed (map (changed f) ts) ≡ closed ts
closed_sees f [] = refl
closed_sees f (t ∷ ts) = rw (closer_sees f t, closed_sees f ts) refl

partner_moved : (f : Change) (d : ℕ) (ts : List Terminal) → partner d (map (changed f) ts) ≡ option_map (changed f) (partner d ts)
partner_moved f zero [] = refl
partner_moved f (suc d) [] = refl
partner_moved f zero (t ∷ ts) = simp (partner_moved f 1 ts, partner_moved f zero ts, moves)
partner_moved f (suc d) (t ∷ ts) = simp (partner_moved f d ts, partner_moved f (suc (suc d)) ts, partner_moved f (suc d) ts, moves)

matches_sees : (f : Change) (o : Option Terminal) (t : Terminal) → matches (option_map (changed f) o) (changed f t) ≡ matches o t
matches_sees f None t = refl
matches_sees f (Some o) t = rw (round_sees f o, round_sees f t) refl

atomic_sees : (f : Change) (t : Terminal) (ts : List Terminal) → begins_atomic (changed f t) (map (changed f) ts) ≡ begins_atomic t ts
unfolding begins_atomic
atomic_sees f t [] = refl
atomic_sees f t (u ∷ us) = simp moves

may_stand_sees : (f : Change) (earlier : List Terminal) (t : Terminal) (ts : List Terminal) →
    may_stand (map (changed f) earlier) (changed f t) (map (changed f) ts) ≡ may_stand earlier t ts
may_stand_sees f earlier t ts =
    rw (
      unicode_name_sees f t,
      opener_sees f t,
      closer_sees f t,
      opened_sees f earlier,
      closed_sees f earlier,
      partner_moved f 0 earlier,
      matches_sees f (partner 0 earlier) t,
      atomic_sees f t ts,
    )
    refl

sound_sees : (f : Change) (earlier ts : List Terminal) → sound_from (map (changed f) earlier) (map (changed f) ts) ≡ sound_from earlier ts
sound_sees f earlier [] = rw (opened_sees f earlier, closed_sees f earlier) refl
sound_sees f earlier (t ∷ ts) = rw (may_stand_sees f earlier t ts, sound_sees f (t ∷ earlier) ts) refl

pub sound_renumbers : Changes SoundRenumbers
unfolding is_sound
sound_renumbers f ts = sound_sees f [] ts
