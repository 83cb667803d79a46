use Rattle.muni_dec.proofs.digits.+push_last_digits.Given as goal

-- each call has one digit less to write
abbrev pub decreases-push_last_digits : goal.decreases-push_last_digits
decreases-push_last_digits l = l.count
