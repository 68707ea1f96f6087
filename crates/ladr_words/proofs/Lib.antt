mod Numbers
mod Simple
