mod Found
mod Greatest
