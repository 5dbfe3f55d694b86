-- What a host's handle leads to, and what a call does to it. Contracts know what it leads to as a value of the type K.
use Rattle.std.specs.Prelude.{◌≡◌, Option, None, Some}
use Rattle.boot_words.specs.Tables.{KnownTable}

-- what a handle leads to, and the table of its boot
pub record Led (K : Type 0) : Type 0 where
  pub frames : KnownTable
  pub known : K

module _ {K : Type 0} where
  -- the same, of these parts
  abbrev pub led : KnownTable → K → Led K
  led frames known = record { frames = frames; known = known }

  -- what a handle leads to, if to anything; a table alone doesn't matter
  abbrev pub led_of : KnownTable → Option K → Option (Led K)
  led_of frames None = None
  led_of frames (Some known) = Some (led frames known)

  -- `does` leads from what a pointer led to before a call to what it leads to now
  pub record OnKnown (does : (from to : K) → Type 0) (before after : Option K) : Type 0 where
    pub from : K
    pub to : K
    pub was : before ≡ Some from
    pub is : after ≡ Some to
    pub done : does from to

  -- the same, and the table stays
  pub record OnPointer (does : (from to : K) → Type 0) (old_frames : KnownTable) (before : Option K)
      (frames : KnownTable) (after : Option K) : Type 0 where
    pub frames_are : frames ≡ old_frames
    pub on_known : OnKnown does before after

  -- A handle leads to something before a call and after it, of the same table, and under that `does` leads from one to
  -- the other
  pub record OnHandle (does : KnownTable → (from to : K) → Type 0) (before after : Option (Led K)) : Type 0 where
    pub frames : KnownTable
    pub from : K
    pub to : K
    pub was : before ≡ Some (led frames from)
    pub is : after ≡ Some (led frames to)
    pub done : does frames from to
