-- Each source has its loop. Assumes nothing.
use Rattle.replying.proofs.Shows.{filled_written, suspended_pages, length_divides, shows_status, shows_configuration, shows_protection, shows_identity, shows_security, shows_array, shows_burst}
use Rattle.replying.proofs.show.Goals as goal

pub read_array-requires : goal.read_array-requires
read_array-requires c = let p = c.requires in (suspended_pages c.args.r _ p.suspended c.array_range-range.ensures, (p.whole, (c.address_of-at.ensures.inside, (p.even, p.few))))

pub read_burst-requires : goal.read_burst-requires
read_burst-requires c = let s = c in (suspended_pages s.args.r _ s.requires.suspended c.array_range-range-in-ArrayBurst.ensures, (s.requires.whole, (c.address_of-at-in-ArrayBurst.ensures.inside, (length_divides s.args.r.burst _ c.burst_length-n.ensures, (s.requires.even, s.requires.few)))))

pub returns-in-Status : goal.returns-in-Status
returns-in-Status c = let a = c.args in shows_status a.s a.r a.array.now a.security.now a.sent.now a.reply.now a.marks.now _ _ _ c.in-Status.is c.status_of.ensures c.fill_both.ensures

pub returns-in-Configuration : goal.returns-in-Configuration
returns-in-Configuration c = let a = c.args in shows_configuration a.s a.r a.array.now a.security.now a.sent.now a.reply.now a.marks.now _ _ _ c.in-Configuration.is c.configuration_of.ensures c.fill_both-in-Configuration.ensures

pub returns-in-Protection : goal.returns-in-Protection
returns-in-Protection c = let a = c.args in shows_protection a.s a.r a.array.now a.security.now a.sent.now a.reply.now a.marks.now _ _ c.in-Protection.is c.read_protection.ensures (filled_written _ _ 1 (c.fill.ensures.after (λ y h. h)))

pub returns-in-Identity : goal.returns-in-Identity
returns-in-Identity c = let a = c.args in shows_identity a.s a.r a.array.now a.security.now a.sent.now a.reply.now a.marks.now _ _ c.in-Identity.is c.read_identity.ensures (filled_written _ _ 1 (c.fill-in-Identity.ensures.after (λ y h. h)))

pub returns-in-Array : goal.returns-in-Array
returns-in-Array c = let a = c.args in shows_array a.s a.r a.array.now a.security.now a.sent.now a.reply.now a.marks.now _ _ _ _ c.in-Array.is c.array_range-range.ensures c.address_of-at.ensures.value c.read_array.ensures.bytes c.read_array.ensures.known

pub returns-in-ArrayBurst : goal.returns-in-ArrayBurst
returns-in-ArrayBurst c = let a = c.args in shows_burst a.s a.r a.array.now a.security.now a.sent.now a.reply.now a.marks.now _ _ _ _ _ c.in-ArrayBurst.is c.array_range-range-in-ArrayBurst.ensures c.address_of-at-in-ArrayBurst.ensures.value c.burst_length-n.ensures c.read_burst.ensures.bytes c.read_burst.ensures.known

pub returns-in-Security : goal.returns-in-Security
returns-in-Security c = let a = c.args in shows_security a.s a.r a.array.now a.security.now a.sent.now a.reply.now a.marks.now _ _ _ c.in-Security.is c.security_address_of-at.ensures.value c.read_security.ensures (filled_written _ _ 1 (c.fill-in-Security.ensures.after (λ y h. h)))
