-- From a call on the pointer behind a handle to what the handle leads to.
use Rattle.std.proofs.Common.{◌≡◌, ◌∙◌, Some, None, ap, refl, subst, sym}
use Rattle.std.proofs.lemmas.Bool.{false≢true}
use Rattle.std.specs.Prelude.{ℕ, Bool, IsSome, IsSomeAnd, Option}
use Rattle.std.specs.Global.{Global, Box}
use Rattle.boot_words.specs.Tables.{KnownTable}
use Rattle.host_memory.specs.Cells.{KnownLoan}
use Rattle.host_memory.specs.{OnKnown, led, led_of}
use Rattle.mem_system.specs.{CpuInRun, HasEnded}
use Rattle.mem_system.specs.declared.end_with_pins.SystemEnd.{SystemEnd}
use Rattle.zone_threads.specs.Homes.{EndsParked, HasCpu, HasNoCpu, IfNotEntered, KnownBehind, KnownHome}
use Rattle.zone_threads.specs.declared.home.NotEntered.{NotEntered}
use Rattle.zone_threads.specs.declared.home.NotEntered.TheVariants as not_entered
use Rattle.zone_threads.specs.declared.home.NotLeft.{NotLeft}
use Rattle.zone_threads.specs.declared.home.NotLeft.TheVariants as not_left
use Rattle.tempolemon_threads.specs.Serving.{DropsHome, ServesHomeRequest, ServesRawHome}
use Rattle.tempolemon_threads.specs.declared.requests.Request.TheVariants.{End, Enter, Leave}
use Rattle.tempolemon_threads.specs.declared.requests.RequestAnswer.{RequestAnswer}
use Rattle.tempolemon_threads.specs.declared.requests.RequestAnswer.TheVariants as answer
use Rattle.tempolemon_threads.specs.{EndsAs, IsCpuHandle}

-- a CPU's handle leads to a home with a CPU, if to anything
pub cpu_behind : (f : KnownTable) (is_live : Bool) (o : Option KnownHome) → IsCpuHandle is_live o → IsSome (led_of f o)
    → IsSomeAnd o HasCpu
cpu_behind f is_live None is some = absurd (false≢true some)
cpu_behind f is_live (Some home) is some = is.cpu home refl

-- a return by a CPU's handle doesn't find that there is no CPU
pub no_cpu_left : (f : KnownTable) (a : Global) (is_live : Bool) (o before after : Option KnownHome) (said : RequestAnswer)
    (reason : NotLeft) → IsCpuHandle is_live o → before ≡ o → ServesHomeRequest f before (Leave a) after said → said ≡ answer.NotLeft reason
    → reason ≡ not_left.NoCpu → ⊥
no_cpu_left f a is_live o before after said reason is same serves one two =
    let drops : DropsHome before after = subst (λ (x : RequestAnswer). ServesHomeRequest f before (Leave a) after x) (one ∙ ap answer.NotLeft two) serves in
    false≢true (subst (λ (x : Option CpuInRun). IsSome x) drops.none (is.cpu drops.from (sym same ∙ drops.was)))

-- a zone that ended with the CPUs that were parked ended
pub has_ended : (f : KnownTable) (loan : KnownLoan (Box KnownBehind)) (ended : SystemEnd) → EndsParked f loan ended → HasEnded f ended
has_ended f loan ended parked =
    (parked.found.value.parked, record { locked = parked.found.value.locked; sound = parked.ends.sound; so = parked.ends })

-- a refused entry leaves a home without a CPU without one
no_cpu_yet : (cpus number : ℕ) (from to : KnownHome) (reason : NotEntered) → IfNotEntered cpus number from reason to → HasNoCpu from → HasNoCpu to
no_cpu_yet cpus number from to not_entered.NoCpu is none = subst HasNoCpu (sym is.2) none
no_cpu_yet cpus number from to not_entered.Out is none = subst HasNoCpu (sym is.shows) none
no_cpu_yet cpus number from to not_entered.HasCpu is none = subst HasNoCpu (sym is.1) none
no_cpu_yet cpus number from to not_entered.Busy is none = subst HasNoCpu (sym is.stays) none

-- a home without a CPU is gone after a return
home_gone : (f : KnownTable) (a : Global) (before after : Option KnownHome) (said : RequestAnswer) → IsSomeAnd before HasNoCpu
    → ServesHomeRequest f before (Leave a) after said → after ≡ None
home_gone f a before after (answer.Left shown) none serves = serves.is
home_gone f a before after (answer.NotLeft not_left.NoCpu) none serves = serves.is
home_gone f a None after (answer.NotLeft not_left.Busy) none serves = absurd none
home_gone f a (Some home) after (answer.NotLeft not_left.Busy) none serves =
    absurd (false≢true (subst (λ (x : Option CpuInRun). IsSome x) none serves.0))
home_gone f a before after answer.Started none serves = absurd serves
home_gone f a before after answer.NoMemory none serves = absurd serves
home_gone f a before after answer.Entered none serves = absurd serves
home_gone f a before after (answer.NotEntered reason) none serves = absurd serves
home_gone f a before after (answer.Text text) none serves = absurd serves
home_gone f a before after answer.Busy none serves = absurd serves
home_gone f a before after answer.Out none serves = absurd serves
home_gone f a before after (answer.Ended ended) none serves = absurd serves
home_gone f a before after answer.Lost none serves = absurd serves

-- a home that was refused a CPU is gone after a return
pub refused_gone : (f g : KnownTable) (a : Global) (number : ℕ) (home between after : Option KnownHome)
    (said left : RequestAnswer) (reason : NotEntered) → IsSomeAnd home HasNoCpu → ServesHomeRequest f home (Enter number) between said
    → said ≡ answer.NotEntered reason → ServesHomeRequest g between (Leave a) after left → after ≡ None
refused_gone f g a number home between after said left reason none enters is leaves =
    let on : OnKnown (λ (from to : KnownHome). IfNotEntered f.cpus number from reason to) home between =
    subst (λ (x : RequestAnswer). ServesHomeRequest f home (Enter number) between x) is enters in
    let was : HasNoCpu on.from = subst (λ (o : Option KnownHome). IsSomeAnd o HasNoCpu) on.was none in
    let now = no_cpu_yet f.cpus number on.from on.to reason on.done was in
    home_gone g a between after left (subst (λ (o : Option KnownHome). IsSomeAnd o HasNoCpu) (sym on.is) now) leaves

-- an end by the pointer behind a zone's handle is one by the handle
pub ends_led : (f : KnownTable) (a : Global) (before : Option KnownHome) (g : KnownTable) (after : Option KnownHome)
    (said : RequestAnswer) → IsSome (led_of f before) → ServesRawHome f before (End a) g after said → EndsAs said (led_of f before) (led_of g after)
ends_led f a before g after answer.Out some is =
    ap (λ (h : KnownTable). led_of h after) is.frames_are ∙ ap (led_of f) is.serves
ends_led f a None g after (answer.Ended ended) some is = absurd (false≢true some)
ends_led f a (Some home) g after (answer.Ended ended) some is = record {
  zone = led f home;
  was = refl;
  done = subst (λ (h : KnownTable). HasEnded h ended) is.frames_are is.serves.0;
  is = ap (led_of g) is.serves.1;
}
ends_led f a before g after answer.NoMemory some is = ap (led_of g) is.serves
ends_led f a before g after answer.Lost some is = ap (led_of g) is.serves
ends_led f a before g after answer.Started some is = absurd is.serves
ends_led f a before g after answer.Entered some is = absurd is.serves
ends_led f a before g after (answer.NotEntered reason) some is = absurd is.serves
ends_led f a before g after (answer.Left shown) some is = absurd is.serves
ends_led f a before g after (answer.NotLeft reason) some is = absurd is.serves
ends_led f a before g after (answer.Text text) some is = absurd is.serves
ends_led f a before g after answer.Busy some is = absurd is.serves
